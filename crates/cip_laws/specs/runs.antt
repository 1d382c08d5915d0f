pub mod Completeness
pub mod Dividing
pub mod Laws
pub mod Repeating
pub mod Worked
