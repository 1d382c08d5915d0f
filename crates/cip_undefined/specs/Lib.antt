pub mod Answers
pub mod Branches
pub mod Laws
pub mod Pairs
pub mod Texts
pub mod Ties
pub mod UndefinedUnits
