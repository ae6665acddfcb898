mod AddedLines
pub mod LineCuts
pub mod NextLine
pub mod cited
