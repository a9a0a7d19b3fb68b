mod PackTexts
pub mod PackKnown
mod NewPack
mod MakingLemmas
mod AskingLemmas
