pub mod EndSteps
pub mod LeafCounts
pub mod LeafReads
pub mod PlainSteps
pub mod Readings
pub mod StopSteps
pub mod Walks
