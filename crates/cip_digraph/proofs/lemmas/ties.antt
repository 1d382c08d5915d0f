pub mod Early
pub mod SameFromTie
pub mod Settled
pub mod TieFromSame
pub mod Turned
