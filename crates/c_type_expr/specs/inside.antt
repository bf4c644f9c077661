pub mod Chains
pub mod Faults
pub mod Frames
pub mod Says
pub mod Trees
