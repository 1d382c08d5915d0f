pub mod Settled
pub mod UnitFree
