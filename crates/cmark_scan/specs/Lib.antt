pub mod Handled
pub mod Shown
