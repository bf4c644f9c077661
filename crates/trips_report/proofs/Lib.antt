pub mod CommitFacts
pub mod ListedTexts
pub mod StandardFacts
