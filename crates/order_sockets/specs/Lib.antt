pub mod Calling
pub mod Calls
