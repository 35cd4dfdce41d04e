pub mod Place
pub mod Polygons
pub mod Body
pub mod Region
pub mod Counted
pub mod Refusals
