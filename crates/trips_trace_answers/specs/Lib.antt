pub mod TraceReports
pub mod TraceAnswers
pub mod inside
