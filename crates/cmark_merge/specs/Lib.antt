pub mod Merge
pub mod Merging
pub mod Reading
pub mod Steps
pub mod Streams
