pub mod PartLemmas
pub mod HoldingLemmas
pub mod WantingLemmas
pub mod SteppingLemmas
pub mod EndLemmas
pub mod LawLemmas
pub mod ServingLemmas
pub mod ApartLemmas
