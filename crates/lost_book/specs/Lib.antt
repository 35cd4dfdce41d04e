pub mod Applied
pub mod Bounds
