pub mod Laws
pub mod NarrowedCode
pub mod NarrowedMeaning
pub mod NarrowedRuns
pub mod NarrowedViews
