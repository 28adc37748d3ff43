pub mod SafeLaw
pub mod SafeParts
pub mod SafePieces
pub mod SafeWords
pub mod SchemeSteps
pub mod SchemeWords
