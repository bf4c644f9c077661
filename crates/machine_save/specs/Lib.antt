pub mod Limits
pub mod Spelling
pub mod FirstFault
pub mod inside
