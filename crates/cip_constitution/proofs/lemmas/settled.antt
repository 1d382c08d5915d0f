pub mod DecidingSphere
pub mod Rounds
