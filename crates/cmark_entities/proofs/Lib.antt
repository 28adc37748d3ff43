pub mod Ascending
pub mod Found
pub mod Searched
pub mod Unpacked
