pub mod Taking
pub mod Summing
