pub mod Choices
pub mod Forms
pub mod Help
pub mod Letters
pub mod Numbers
pub mod Options
pub mod Ranges
pub mod Settings
