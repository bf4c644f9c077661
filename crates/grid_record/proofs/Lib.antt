pub mod FrameFacts
pub mod PieceFacts
pub mod RecordFacts
pub mod RunFacts
