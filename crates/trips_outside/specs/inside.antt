pub mod MemoryFiles
pub mod MemorySinks
