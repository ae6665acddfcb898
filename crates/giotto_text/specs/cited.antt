pub mod ProgramCodes
pub mod ProgramTrees
pub mod Reading
