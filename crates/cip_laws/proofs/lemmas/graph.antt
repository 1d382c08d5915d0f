pub mod CarriedSmallRings
pub mod DelocalisedEnds
pub mod HydrogenPlaces
pub mod Inverses
pub mod RenumberedGraph
pub mod WaySymmetry
