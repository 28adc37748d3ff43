pub mod Reads
pub mod Walking
