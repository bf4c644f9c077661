pub mod Among
pub mod Cycles
pub mod Laws
