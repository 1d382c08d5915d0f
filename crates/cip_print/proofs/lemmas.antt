pub mod LastDigits
pub mod Lines
pub mod Summaries
pub mod Texts
pub mod Explained
