pub mod Bytes
pub mod Digest
