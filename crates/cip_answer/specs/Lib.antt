pub mod Answers
pub mod AxesTexts
pub mod FurtherAnswers
pub mod SymmetryLabels
pub mod Laws
pub mod Worked
