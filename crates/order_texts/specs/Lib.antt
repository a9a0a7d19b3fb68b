pub mod Table
pub mod Items
pub mod Grants
pub mod Texts
pub mod Lines
pub mod Reading
pub mod Answers
pub mod Stopping
