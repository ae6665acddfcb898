pub mod Archiving
pub mod Crossing
pub mod Piecing
