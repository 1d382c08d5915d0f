pub mod Faults
pub mod Growth
pub mod Memory
