pub mod StartFacts
