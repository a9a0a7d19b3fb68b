pub mod Making
pub mod Asking
