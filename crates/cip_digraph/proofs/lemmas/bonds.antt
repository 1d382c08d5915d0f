pub mod Centres
pub mod Neighbours
pub mod Sound
pub mod Tests
