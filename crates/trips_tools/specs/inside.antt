pub mod ToolAnswers
pub mod Tools
