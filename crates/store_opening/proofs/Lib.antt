pub mod FreshTexts
pub mod FreshKnown
pub mod FreshTables
pub mod VersionRows
pub mod VersionAsked
pub mod OpeningLemmas
mod VersionInserts
mod BesideTables
pub mod Meanings
