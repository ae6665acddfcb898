pub mod TellingFaults
