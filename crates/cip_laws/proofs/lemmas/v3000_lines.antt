pub mod InOrder
pub mod JoinedInOrder
pub mod LineCauses
pub mod Soundness
pub mod WorkedLines
