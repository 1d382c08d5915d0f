pub mod doubled
pub mod refined
pub mod room
pub mod ruled
pub mod taken
pub mod walked
