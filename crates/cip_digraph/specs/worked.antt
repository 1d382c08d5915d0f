pub mod Molecules
pub mod Trying
pub mod WorkedDigraphs
pub mod WorkedGraphs
pub mod WorkedLabels
