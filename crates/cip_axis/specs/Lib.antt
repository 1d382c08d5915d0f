pub mod Biaryls
pub mod Cumulenes
pub mod Further
pub mod FurtherOutcomes
pub mod Likeness
pub mod Listing
pub mod WorkedFurther
