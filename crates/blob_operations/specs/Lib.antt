pub mod Uploads
pub mod Mounting
pub mod Pushing
