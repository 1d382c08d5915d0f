pub mod Asking
pub mod Keys
pub mod NodeDescriptors
pub mod Narrowing
pub mod LigandBranches
pub mod NearColumns
pub mod RankingCache
pub mod Room
