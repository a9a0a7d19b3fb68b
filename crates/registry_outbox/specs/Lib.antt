pub mod Reports
pub mod Outboxes
