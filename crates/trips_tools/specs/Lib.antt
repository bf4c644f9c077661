pub mod Tools
pub mod ToolAnswers
pub mod inside
