pub mod Format
pub mod Found
pub mod Lines
pub mod Reading
pub mod Seen
pub mod State
