pub mod Branches
pub mod IsPredictor
pub mod Predicts
