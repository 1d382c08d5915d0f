pub mod GivenMarks
pub mod KeptMarks
pub mod MarkedLigands
pub mod TurnedDrawings
