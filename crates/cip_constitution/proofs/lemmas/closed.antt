pub mod Branches
pub mod Ligands
pub mod Under
