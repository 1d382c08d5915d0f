pub mod Ahead
pub mod Cutting
pub mod Holding
pub mod Limits
pub mod PieceLines
pub mod PlainLines
