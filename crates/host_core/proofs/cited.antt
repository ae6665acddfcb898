pub mod LineValues
pub mod Outstanding
