pub mod Rests
pub mod Shown
