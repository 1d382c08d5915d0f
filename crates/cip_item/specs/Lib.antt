pub mod Items
pub mod Kinds
pub mod Laws
pub mod Parts
pub mod Putting
pub mod Room
pub mod Splitting
