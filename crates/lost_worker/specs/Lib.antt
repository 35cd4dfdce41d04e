pub mod Moments
pub mod Lines
pub mod Sources
pub mod Sum
pub mod Serving
pub mod Desking
pub mod Codes
pub mod Cached
