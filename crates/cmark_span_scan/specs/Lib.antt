pub mod Backticks
pub mod Dollars
pub mod Ends
pub mod Shown
pub mod Special
