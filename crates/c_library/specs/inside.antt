pub mod Gives
pub mod Puts
pub mod Placed
pub mod Mentions
