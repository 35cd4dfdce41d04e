pub mod Address
pub mod Kind
pub mod ListenError
pub mod Mode
pub mod Peer
