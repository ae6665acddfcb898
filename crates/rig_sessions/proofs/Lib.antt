pub mod Answering
pub mod Batches
pub mod SessionLines
pub mod SoFar
