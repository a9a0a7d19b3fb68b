pub mod Opening
pub mod Unwritten
