pub mod CheckedReads
pub mod KeepingLemmas
pub mod Readings
pub mod OfKind
