pub mod Memory
pub mod SafeEvents
pub mod SafeHtml
pub mod Schemes
pub mod Streams
