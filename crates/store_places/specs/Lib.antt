pub mod Places
pub mod Source
