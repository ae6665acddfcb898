pub mod EachLemmas
pub mod EntryLemmas
pub mod PlaceLemmas
pub mod PortsOnce
pub mod SlotLemmas
pub mod Valuations
