pub mod Settled
pub mod Shown
