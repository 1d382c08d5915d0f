pub mod RootDecisions
pub mod Counting
pub mod Desks
pub mod Keeping
pub mod Rooting
pub mod Rows
pub mod Standing
pub mod ToldEarly
