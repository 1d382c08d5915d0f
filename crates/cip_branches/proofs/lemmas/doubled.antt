pub mod Columns
pub mod Flags
pub mod Ranks
pub mod Stands
pub mod Starts
pub mod Words
