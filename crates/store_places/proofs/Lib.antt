pub mod AddLemmas
pub mod Sorting
pub mod WorldLemmas
pub mod ChainLemmas
pub mod RemoveLemmas
pub mod SourceLemmas
