pub mod ItemSteps
pub mod LineSteps
pub mod ParseSteps
pub mod RenderSteps
pub mod SafeSteps
pub mod TailSteps
pub mod UndefinedSteps
pub mod WalkSteps
