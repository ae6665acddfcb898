pub mod CommandLines
pub mod CommandRows
pub mod GrantLines
pub mod GrantRows
pub mod PortWords
pub mod ReplyRows
pub mod SameBytes
pub mod SingleBlanks
pub mod ValueLemmas
pub mod WordRows
pub mod cited
pub use Rattle.tenant_trace.proofs.cited as of_trace
