pub mod BeforeFaults
pub mod Left
pub mod cited
