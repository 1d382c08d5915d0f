pub mod Alternating
pub mod Reached
