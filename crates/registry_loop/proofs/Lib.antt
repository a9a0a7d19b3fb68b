pub mod TogetherLemmas
pub mod CallerLemmas
pub mod RoundLemmas
