pub mod Slots
pub mod cited
pub mod inner
