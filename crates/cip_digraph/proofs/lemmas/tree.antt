pub mod Apart
pub mod Branches
pub mod Children
pub mod Ended
pub mod Ligands
