pub mod LatestNames
pub mod SizedTurns
pub mod SizedFacts
pub mod OperatorFacts
pub mod ValueFacts
pub mod KeptShapes
pub mod KeptSizes
pub mod StandardFacts
