pub mod Digraph
pub mod NodeList
pub mod SameBranch
pub mod Telling
pub mod View
