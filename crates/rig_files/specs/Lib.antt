pub mod cited
pub mod inner
