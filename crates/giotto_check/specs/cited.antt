pub mod Facts
pub mod Slots
pub mod Timetables
