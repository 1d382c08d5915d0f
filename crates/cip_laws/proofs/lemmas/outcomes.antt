pub mod ReflectedOutcomes
pub mod WholeInversions
