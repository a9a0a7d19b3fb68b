pub mod TableLemmas
pub mod TextLemmas
pub mod NumberLemmas
pub mod PlainWords
pub mod WordLemmas
pub mod LineLemmas
pub mod AnswerLemmas
pub mod LineLaws
