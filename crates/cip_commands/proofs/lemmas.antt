pub mod Answered
pub mod Counting
pub mod Ended
pub mod Made
pub mod Meanings
pub mod ToldBare
