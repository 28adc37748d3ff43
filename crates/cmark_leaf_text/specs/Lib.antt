pub mod Reads
pub mod Stretches
