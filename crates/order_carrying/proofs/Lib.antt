pub mod FailedReads
pub mod ListLemmas
pub mod NamingLemmas
pub mod GrantLemmas
pub mod OrderStatuses
pub mod AnsweringLemmas
pub mod TableLemmas
