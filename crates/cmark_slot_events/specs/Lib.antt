pub mod Contents
pub mod Events
pub mod LeafStates
pub mod LinkStarts
pub mod Longs
pub mod Opens
pub mod Shorts
