pub mod Listed
pub mod Noted
pub mod Searched
pub mod SharedWays
pub mod Turned
pub mod Walked
pub mod WaySteps
