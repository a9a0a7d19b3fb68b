pub mod Puts
pub mod Worlds
pub mod Naming
pub mod Deleting
pub mod Whole
pub mod SessionChanging
pub mod Changing
