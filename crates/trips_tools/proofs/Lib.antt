pub mod MadeAnswers
