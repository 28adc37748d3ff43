pub mod Callback
pub mod Plain
pub mod Walking
