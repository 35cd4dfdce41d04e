pub mod Store
pub mod Classes
pub mod Invariants
pub mod Applied
pub mod Walk
pub mod Chain
pub mod Naming
