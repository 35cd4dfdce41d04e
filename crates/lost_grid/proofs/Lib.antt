pub mod Quotients
pub mod Levels
pub mod Cells
pub mod Positions
