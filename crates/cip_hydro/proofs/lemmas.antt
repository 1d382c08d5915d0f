pub mod Around
pub mod Carried
pub mod Drawn
pub mod Sums
