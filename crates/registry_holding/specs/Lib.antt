pub mod Holding
pub mod Shown
pub mod Sharing
