pub mod Definitions
pub mod Footnotes
pub mod Links
