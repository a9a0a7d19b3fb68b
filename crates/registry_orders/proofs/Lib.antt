pub mod CauseLemmas
pub mod ExitLemmas
pub mod FoundLemmas
pub mod GivenLemmas
pub mod OutputLemmas
pub mod SettingLemmas
pub mod SplittingLemmas
pub mod TokenLemmas
