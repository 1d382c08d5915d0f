pub mod InOrder
pub mod LineCauses
pub mod PairFaults
pub mod Soundness
