pub mod Loops
pub mod RosterSources
pub mod SeenFrames
pub mod SeenRows
pub mod SeenScripts
pub mod SeenViews
