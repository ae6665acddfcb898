pub mod Commands
pub mod Grants
pub mod inner
pub mod LineTexts
pub mod Reports
pub mod Scripts
pub mod Told
