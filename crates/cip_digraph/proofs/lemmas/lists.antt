pub mod Elements
pub mod Positions
