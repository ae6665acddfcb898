pub mod HostStanding
pub mod Playing
pub mod Trials
