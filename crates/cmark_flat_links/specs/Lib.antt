pub mod Answering
pub mod Table
