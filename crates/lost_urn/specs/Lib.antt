pub mod Kept
pub mod Order
pub mod Spelling
