pub mod Asked
pub mod Operation
pub mod Replies
pub mod inner
