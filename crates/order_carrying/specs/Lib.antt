pub mod Lists
pub mod Grants
pub mod Listed
pub mod Reading
pub mod Naming
pub mod Carrying
pub mod Answering
