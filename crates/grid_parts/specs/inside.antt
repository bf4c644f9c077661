pub mod Asked
pub mod Changes
pub mod Choices
pub mod EldestChoices
pub mod EmptyPlaces
pub mod Fetches
pub mod Marked
pub mod Youngest
