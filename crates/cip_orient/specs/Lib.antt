pub mod DrawnEnds
pub mod OrderedMarks
pub mod PairSigns
