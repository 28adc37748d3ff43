pub mod BuilderSteps
pub mod CutDrawings
pub mod DrawnSteps
pub mod WholeParagraphs
