pub mod Given
pub mod NamedForms
