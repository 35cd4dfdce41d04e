pub mod DecimalLemmas
mod Differences
mod Parity
mod Walk
mod Closed
pub mod Exact
pub mod Cuts
pub mod Spans
pub mod Crossing
mod Products
pub mod Within
mod Runs
