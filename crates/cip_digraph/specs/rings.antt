pub mod Alternating
pub mod AlternatingRings
pub mod PositionLists
pub mod Positions
pub mod RingsThrough
pub mod SmallRings
