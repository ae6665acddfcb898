pub mod Archived
pub mod Closing
pub mod Faults
pub mod Greetings
pub mod Pieces
pub mod Refusals
pub mod Replies
