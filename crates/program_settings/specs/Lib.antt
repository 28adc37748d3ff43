pub mod Endings
pub mod Entities
pub mod Line
pub mod LookUp
pub mod Starts
