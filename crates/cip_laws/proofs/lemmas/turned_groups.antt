pub mod Decided
pub mod TurnedCentres
