pub mod Codes
pub mod Seen
pub mod Sets
pub mod Copies
pub mod Rule
pub mod States
