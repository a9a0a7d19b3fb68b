pub mod StagingLemmas
pub mod WholeLemmas
