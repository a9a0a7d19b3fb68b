pub mod CallingLemmas
