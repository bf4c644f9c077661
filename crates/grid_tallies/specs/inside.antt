pub mod Adding
pub mod Entering
pub mod Fetching
pub mod Leaving
pub mod Moving
pub mod Travelling
