pub mod BondsOnce
pub mod ReflectedDrawings
pub mod RenamedGeometry
pub mod Renumbered
pub mod RenumberedAtoms
pub mod RenumberedBonds
pub mod RenumberedDrawings
