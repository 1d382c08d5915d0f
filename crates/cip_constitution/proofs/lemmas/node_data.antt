pub mod Alike
pub mod Differ
pub mod FirstStanding
