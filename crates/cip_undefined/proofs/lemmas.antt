pub mod FitPairs
pub mod KeptOrders
pub mod Rounds
pub mod Walked
