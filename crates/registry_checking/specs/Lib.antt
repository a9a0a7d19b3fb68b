pub mod Wrongs
pub mod Lines
