pub mod Seeds
pub mod Endings
pub mod WholeRuns
pub mod Answered
pub mod Tallies
pub mod Going
pub mod inside
