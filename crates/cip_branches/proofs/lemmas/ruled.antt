pub mod Decided
pub mod Fewer
pub mod Filled
pub mod Open
pub mod Ruled
