pub mod Auxiliary
pub mod Decisions
pub mod EarlyOrder
pub mod Exchange
pub mod Keys
pub mod Kinds
pub mod Orders
