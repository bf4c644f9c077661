pub mod Gives
pub mod EachTaken
