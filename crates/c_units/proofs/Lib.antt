pub mod SettledFacts
pub mod KeptObjects
pub mod KeptLists
pub mod KeptRaised
pub mod KeptUnits
pub mod StandardFacts
