pub mod HeadingSteps
