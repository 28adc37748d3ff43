pub mod HtmlLines
pub mod LeafLines
pub mod LineMarkers
pub mod LineStart
pub mod Markers
pub mod Places
pub mod TableCells
