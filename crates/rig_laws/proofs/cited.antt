pub mod ActiveTasks
pub mod AloneAlong
pub mod LaterBase
pub mod Places
pub mod Releases
pub mod Replays
pub mod SourceSets
pub mod TwoWorlds
