pub mod Eases
pub mod Laws
pub mod Tables
