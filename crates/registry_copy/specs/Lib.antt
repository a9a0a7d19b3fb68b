pub mod Restoring
pub mod Closed
pub mod Fit
pub mod Faults
pub mod Steps
pub mod Parts
pub mod Copying
