pub mod CutCharacters
pub mod Offsets
pub mod PartSteps
pub mod RemainingSteps
pub mod RestSteps
pub mod RestWrites
pub mod SafeWriting
pub mod StreamSteps
