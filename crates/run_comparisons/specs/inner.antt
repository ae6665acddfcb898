pub mod Hearing
pub mod Replies
