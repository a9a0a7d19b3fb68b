pub mod EndedTasks
pub mod ServingLemmas
pub mod MemoryLemmas
