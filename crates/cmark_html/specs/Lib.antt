pub mod Names
pub mod Parts
pub mod Pauses
pub mod Pushed
pub mod Starts
pub mod Writer
