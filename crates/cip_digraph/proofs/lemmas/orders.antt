pub mod Early
pub mod EarlyRoots
pub mod Exchanged
pub mod ExchangedKeys
pub mod LeastSphere
pub mod Whole
