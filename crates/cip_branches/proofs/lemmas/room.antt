pub mod Kids
pub mod Rising
pub mod Seen
pub mod Whole
