pub mod CutLines
pub mod GrantWords
