pub mod Auditing
pub mod Following
pub mod Giving
pub mod LineWords
pub mod ReadBack
pub mod cited
