pub mod FootnoteSteps
pub mod FrontSteps
pub mod HtmlSteps
pub mod WordSteps
