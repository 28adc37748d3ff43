pub mod Ends
pub mod Faults
pub mod Notes
pub mod Runs
pub mod Statuses
