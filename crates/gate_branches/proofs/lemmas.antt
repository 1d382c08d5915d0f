pub mod FewKids
pub mod ListedKeys
pub mod RankedInTurn
pub mod SeenBranches
