pub mod ListedTexts
pub mod MendedLemmas
pub mod Prefixes
pub mod StandardFacts
