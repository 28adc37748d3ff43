pub mod Closings
pub mod Contents
pub mod ReadFacts
pub mod Stretches
pub mod TextColumns
