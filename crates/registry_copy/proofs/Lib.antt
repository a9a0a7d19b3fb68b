pub mod KeyLemmas
pub mod ChainLemmas
pub mod RepoLemmas
pub mod WorldLemmas
pub mod FitLemmas
pub mod StepLemmas
