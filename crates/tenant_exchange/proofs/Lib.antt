pub mod GrantCommandRows
pub mod GrantedAlong
pub mod Told
