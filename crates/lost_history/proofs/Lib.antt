pub mod Beginnings
pub mod Reaching
