pub mod SeenMaps
pub mod SeenRepositories
pub mod SeenWorlds
pub mod LevelsOn
