pub mod Code
pub mod Compiled
pub mod HasCode
pub mod Layouts
pub mod Words
