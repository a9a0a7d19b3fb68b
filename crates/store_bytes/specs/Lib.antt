pub mod Keeping
pub mod Staging
pub mod Reading
pub mod Lasting
pub mod Sides
