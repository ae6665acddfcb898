pub mod Costs
pub mod Declarations
pub mod Drivers
pub mod Frequencies
pub mod Invocations
pub mod Kinds
pub mod Names
pub mod Ports
pub mod Reads
pub mod Rules
pub mod Switches
pub mod TaskPorts
pub mod cited
pub mod inner
pub use Rattle.giotto_text.specs as text
