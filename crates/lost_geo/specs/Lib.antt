pub mod Ranges
pub mod Sides
pub mod Bounds
pub mod Runs
pub mod Laws
pub mod Kept
