pub mod First
pub mod Grown
pub mod Next
pub mod Places
pub mod Pushed
pub mod Ranked
