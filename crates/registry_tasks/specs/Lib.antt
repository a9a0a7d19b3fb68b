pub mod Failures
pub mod Acts
pub mod Telling
pub mod Program
pub mod Sockets
pub mod Sending
pub mod Checking
pub mod Opened
