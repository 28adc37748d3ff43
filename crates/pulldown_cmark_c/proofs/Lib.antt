pub mod AnswerSteps
pub mod FlatSteps
pub mod ItemSteps
pub mod ReferenceSteps
pub mod StreamSteps
