pub mod Closed
pub mod ClosedLoop
pub mod Seen
pub mod SeenLines
