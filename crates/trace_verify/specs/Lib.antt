pub mod Spelling
pub mod Traces
pub mod FirstFault
pub mod Reading
pub mod Verdicts
pub mod Verifiers
pub mod Recorded
pub mod inside
