pub mod IndexLemmas
pub mod ListLemmas
pub mod NameLemmas
pub mod SoundLemmas
pub mod TestLemmas
pub mod TreeLemmas
pub mod ValuationLemmas
