pub mod Line
pub mod Outcome
pub mod Step
pub mod Stream
