pub mod PlantExamples
pub mod Tables
