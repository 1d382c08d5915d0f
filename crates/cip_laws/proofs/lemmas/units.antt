pub mod AloneSites
pub mod CarriedAxes
pub mod CarriedSites
pub mod ListedSites
pub mod RenumberedSenses
pub mod RenumberedUnits
pub mod TurnedSenses
