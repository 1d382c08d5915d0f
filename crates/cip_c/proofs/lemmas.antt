pub mod Asking
pub mod Bytes
pub mod Lending
