pub mod ListSteps
pub mod PlainData
