pub mod AlikeRows
pub mod Compared
pub mod Hearing
pub mod Listing
pub mod Marks
pub mod Sameness
pub mod Values
