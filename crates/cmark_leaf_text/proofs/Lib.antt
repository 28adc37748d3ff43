pub mod Gapless
pub mod PlaceSteps
pub mod StretchSteps
