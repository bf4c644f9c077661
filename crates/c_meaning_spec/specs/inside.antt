pub mod Laws
pub mod Output
pub mod State
pub mod Told
pub mod TellingLaws
