pub mod ChainRings
pub mod Chained
pub mod CrossedChains
pub mod Drawn
pub mod FewFurther
pub mod FurtherFit
pub mod Onward
pub mod Sited
