pub mod SetupLemmas
pub mod ExitStatuses
pub mod SendingLemmas
pub mod StatusBounds
mod TokenLemmas
pub mod OrderEnds
