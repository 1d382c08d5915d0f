pub mod Answered
pub mod LinesBehind
