pub mod FoundTexts
pub mod PropertyBlock
pub mod QuietFields
pub mod Settling
pub mod Stated
