pub mod Operating
pub mod Digests
pub mod Quota
pub mod Early
pub mod Finding
