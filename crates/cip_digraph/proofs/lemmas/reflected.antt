pub mod Inversions
pub mod Letters
pub mod Units
