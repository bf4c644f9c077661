pub mod Placed
pub mod SmallRows
pub mod Accepted
pub mod Images
pub mod Meant
pub mod CutPrograms
pub mod TriedPlans
pub mod AskedTurns
