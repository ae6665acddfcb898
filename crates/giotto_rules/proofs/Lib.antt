pub mod FindLemmas
pub mod ListSteps
pub mod RuleExamples
pub mod ScopeLemmas
pub mod cited
pub use Rattle.giotto_text.proofs.cited as of_text
