pub mod Cut
pub mod Hanging
pub mod PlaceTrees
pub mod Linked
pub mod Placing
