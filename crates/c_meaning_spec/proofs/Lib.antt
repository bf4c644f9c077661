mod StandardFacts
mod PlaceFacts
pub mod Puts
pub mod ExpressionsPut
pub mod StatementsPut
pub mod Grows
pub mod ExpressionsGrow
pub mod StatementsGrow
pub mod Equations
pub mod Induction
pub mod Stocks
pub mod Told
pub mod Alike
pub mod ExpressionsAlike
pub mod StatementsAlike
pub mod Tellings
