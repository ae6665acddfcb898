pub mod KeepsRules
