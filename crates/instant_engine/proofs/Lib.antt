pub mod Between
pub mod Entered
pub mod Granting
pub mod Kept
pub mod Named
pub mod cited
pub use Rattle.rig_laws.proofs.cited as of_laws
