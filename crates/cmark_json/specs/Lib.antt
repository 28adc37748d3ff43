pub mod EventData
pub mod Lines
