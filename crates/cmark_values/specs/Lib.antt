pub mod Folding
pub mod Holding
pub mod InPlace
pub mod Labelled
pub mod Lending
pub mod Shown
pub mod CodeBlockKinds
