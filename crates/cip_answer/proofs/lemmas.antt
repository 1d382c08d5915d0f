pub mod FoundUnits
pub mod UnitLists
