pub mod World
pub mod Lawful
pub mod State
pub mod Values
pub mod Rows
