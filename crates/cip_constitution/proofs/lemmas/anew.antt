pub mod Ended
pub mod GoingOn
pub mod LastSphere
