pub mod EventSteps
pub mod LinkStartSteps
pub mod LongSteps
pub mod NoEnds
pub mod ShortFirst
pub mod ShortSteps
pub mod StillToCome
