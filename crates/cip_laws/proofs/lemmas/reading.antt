pub mod InOrder
pub mod LineCauses
pub mod SameLines
