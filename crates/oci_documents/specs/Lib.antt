pub mod Shown
pub mod Sink
pub mod Quoting
pub mod Referrers
