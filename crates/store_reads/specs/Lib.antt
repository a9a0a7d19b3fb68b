pub mod Tallies
pub mod LevelLists
pub mod Usages
pub mod Each
