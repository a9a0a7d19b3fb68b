pub mod SayingLemmas
pub mod ManifestLemmas
pub mod PushLemmas
pub mod ListingLemmas
pub mod ReferrersLemmas
pub mod PruningLemmas
