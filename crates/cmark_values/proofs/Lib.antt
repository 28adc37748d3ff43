pub mod Folds
pub mod Kept
pub mod Words
