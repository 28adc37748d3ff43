pub mod Boxes
pub mod Continuations
pub mod Definitions
pub mod Opened
pub mod Rests
pub mod Starts
