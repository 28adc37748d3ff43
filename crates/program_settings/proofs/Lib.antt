pub mod EntitySteps
mod LineSamples
pub mod LineSteps
pub mod StartSteps
