pub mod LineWait
pub mod MapAsked
pub mod MapPieces
pub mod Protocol
pub mod Turns
pub mod Counting
pub mod Kept
