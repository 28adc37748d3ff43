pub mod HtmlLaws
pub mod JoinSteps
pub mod MergeSteps
pub mod ReadSteps
pub mod SameMerge
pub mod StreamSteps
pub mod WithoutRanges
