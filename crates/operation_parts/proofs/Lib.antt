pub mod RepoOutcomes
pub mod FailedCalls
pub mod ReadLemmas
pub mod DigestLemmas
pub mod EarlyLemmas
pub mod QuotaLemmas
