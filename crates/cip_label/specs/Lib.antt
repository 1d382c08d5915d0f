pub mod Fitting
pub mod Labelling
pub mod Pairwise
pub mod Settings
pub mod BranchComparison
pub mod Steps
