pub mod Keys
pub mod TokenOrder
pub mod TokenSets
