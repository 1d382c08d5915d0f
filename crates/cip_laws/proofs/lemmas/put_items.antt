pub mod FirstEnds
pub mod LineEnds
pub mod PutAgain
