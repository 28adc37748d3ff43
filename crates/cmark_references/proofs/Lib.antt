pub mod CopySteps
pub mod DefinitionSteps
pub mod EntrySteps
pub mod FirstSteps
pub mod SpellingSteps
