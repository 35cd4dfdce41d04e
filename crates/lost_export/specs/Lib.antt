pub mod Export
pub mod ReadBack
pub mod Put
pub mod Traces
pub mod Withdrawn
