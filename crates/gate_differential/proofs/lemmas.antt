pub mod Started
pub mod Within
