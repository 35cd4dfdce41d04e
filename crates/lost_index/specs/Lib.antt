pub mod Chunks
pub mod Kinds
pub mod Notes
pub mod Entries
