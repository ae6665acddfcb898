pub mod Chains
pub mod FirstLinks
pub mod ForwardSources
pub mod LinkAdditions
pub mod LinkSteps
pub mod LinkTables
pub use Rattle.host_core.proofs.of_laws
