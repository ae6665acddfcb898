pub mod NoneDue
