pub mod FlowFits
pub mod inside
