pub mod BondsAtAtoms
pub mod FirstPlaces
pub mod NoMarks
pub mod Undecided
