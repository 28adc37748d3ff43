pub mod DefinitionSteps
pub mod TableSteps
