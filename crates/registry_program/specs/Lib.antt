pub mod Running
pub mod Serving
pub mod Memory
