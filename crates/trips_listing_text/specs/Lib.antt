pub mod Scalars
pub mod Functions
pub mod Comments
pub mod Listed
pub mod inside
