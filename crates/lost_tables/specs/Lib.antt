pub mod Lists
pub mod Lookup
pub mod Picks
pub mod Chunks
pub mod Numbered
