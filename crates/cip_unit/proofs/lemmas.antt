pub mod FewUnits
pub mod FirstEnds
pub mod Kept
pub mod Leads
pub mod NoAllenes
pub mod NoDoubles
pub mod Shown
pub mod ThirdNeighbours
