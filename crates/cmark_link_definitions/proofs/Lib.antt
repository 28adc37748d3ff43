pub mod SettledSteps
