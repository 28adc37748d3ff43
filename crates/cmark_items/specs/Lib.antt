pub mod Headings
pub mod ItemNodes
pub mod Spans
pub mod Tables
