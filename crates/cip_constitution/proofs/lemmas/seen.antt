pub mod AllTie
pub mod Distances
pub mod Finished
pub mod Rules
