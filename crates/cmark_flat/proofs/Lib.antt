pub mod FlatSteps
pub mod Loop
pub mod RecordLaw
pub mod ReadLoop
pub mod GroupLoop
pub mod EventLaw
pub mod FlatLaw
pub mod LinkLaw
