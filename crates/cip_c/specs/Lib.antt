pub mod Answers
pub mod Making
pub mod Pointers
pub mod Texts
pub mod Writing
