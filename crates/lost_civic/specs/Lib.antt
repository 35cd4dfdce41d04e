pub mod Element
pub mod Pairs
pub mod Signatures
pub mod Squeezed
pub mod Texts
