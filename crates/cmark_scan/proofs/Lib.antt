pub mod LabelSteps
pub mod OwnedSteps
pub mod TagTexts
