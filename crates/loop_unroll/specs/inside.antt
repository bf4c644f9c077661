pub mod Laws
pub mod Unrolled
pub mod Wholes
