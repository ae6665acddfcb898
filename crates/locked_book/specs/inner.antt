pub mod Books
pub mod Carried
pub mod Places
pub mod Rules
