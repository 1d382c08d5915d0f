pub mod Growth
pub mod Supply
