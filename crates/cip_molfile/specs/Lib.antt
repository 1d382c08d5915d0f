pub mod Drawings
pub mod Molecules
