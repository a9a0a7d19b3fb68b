pub mod Operations
pub mod AdminCommands
pub mod Steps
pub mod Serving
pub mod Bodies
