pub mod MirrorReads
pub mod SetReads
