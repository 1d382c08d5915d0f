pub mod Among
pub mod Ended
pub mod Even
pub mod Kept
pub mod Rules
pub mod Checkpoint
