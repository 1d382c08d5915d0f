pub mod Causes
pub mod Fields
pub mod Laws
pub mod Reading
pub mod Refusals
pub mod Spaces
pub mod Turns
pub mod Usual
