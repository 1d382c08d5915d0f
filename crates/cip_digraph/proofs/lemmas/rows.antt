pub mod Joined
pub mod Laid
pub mod Rooms
pub mod Sinking
