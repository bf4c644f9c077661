pub mod Limits
pub mod Marks
pub mod ByMark
pub mod TypedTrees
pub mod Words
pub mod inside
