pub mod WrongLemmas
pub mod WholeLemmas
