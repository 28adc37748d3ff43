pub mod Filters
pub mod Parsing
pub mod Rendering
pub mod Tails
pub mod Walked
pub mod Walking
