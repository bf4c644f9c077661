pub mod Compiled
pub mod GuardLaws
pub mod Laws
pub mod Limits
pub mod PlainLaws
pub mod TrimLaws
