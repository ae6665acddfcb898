pub mod Behind
pub mod LineEvents
pub mod LineValues
pub mod NewScript
