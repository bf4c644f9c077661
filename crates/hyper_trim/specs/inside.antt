pub mod Alive
pub mod Entries
pub mod Forward
pub mod Laws
pub mod Narrows
pub mod Sets
pub mod Trim
pub mod Walked
