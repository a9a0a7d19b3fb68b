pub mod Push
pub mod Referrers
pub mod Pruning
pub mod Saying
