pub mod DestinationSteps
pub mod LinkSteps
pub mod RestSteps
pub mod TitleSteps
