pub mod Tapes
pub mod ByName
pub mod Compact
pub mod Numbers
pub mod Values
