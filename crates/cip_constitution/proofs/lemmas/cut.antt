pub mod Branches
pub mod Ends
pub mod Nodes
pub mod Rules
pub mod Taken
