pub mod Copies
pub mod SameResults
pub mod Slots
pub mod TableChanges
pub mod TableEntries
pub mod cited
