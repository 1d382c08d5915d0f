pub mod Following
pub mod Framing
pub mod Laws
pub mod Records
pub mod Taking
