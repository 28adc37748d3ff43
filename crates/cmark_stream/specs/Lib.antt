pub mod Chunks
pub mod Faults
pub mod Rests
pub mod Streams
