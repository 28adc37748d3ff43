mod AlertSamples
mod AttributeSamples
mod BlockReadingSamples
mod CharacterSamples
mod EmailSamples
pub mod HtmlSamples
pub mod InlineSamples
mod LeafSamples
mod LineSamples
mod MetadataSamples
pub mod QuoteSamples
mod SiblingSamples
mod TableSamples
pub mod TagSamples
pub mod TaskSamples
