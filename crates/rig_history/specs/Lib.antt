pub mod Audits
pub mod Commands
pub mod Entries
pub mod Pieces
pub mod inner
