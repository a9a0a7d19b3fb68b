pub mod OutboxLemmas
pub mod ReportLemmas
