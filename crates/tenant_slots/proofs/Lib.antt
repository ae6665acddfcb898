pub mod ActuatorPlaces
pub mod ActuatorSlots
pub mod CarriedValues
pub mod CarryTables
pub mod GrantRows
pub mod InitialValues
pub mod PlacedOnce
pub mod ReadLines
pub mod Recorded
pub mod SensedSlots
pub mod SharedSlots
pub mod TakenSwitches
pub mod TaskValues
pub mod WrittenRanges
pub mod WrittenSlots
pub mod cited
pub use Rattle.giotto_check.proofs.cited as of_well_formed
