mod BareSteps
pub mod Boundaries
pub mod Closers
mod EmailSteps
pub mod Endings
pub mod EntitySteps
pub mod FootnoteSteps
mod Labels
pub mod Links
pub mod Lists
pub mod PartSteps
pub mod PipeEscapes
pub mod PipeSteps
pub mod TagSteps
pub mod TrailingSteps
pub mod Unescaping
pub mod Marks
