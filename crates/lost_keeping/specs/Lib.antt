pub mod Keepers
pub mod Kept
pub mod Recovery
pub mod Serving
pub mod Walks
