pub mod LineSteps
