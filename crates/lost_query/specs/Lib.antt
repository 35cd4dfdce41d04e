pub mod Children
pub mod Judged
pub mod Reference
pub mod Used
pub mod Finding
pub mod Ask
pub mod Asked
