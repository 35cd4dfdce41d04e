pub mod TokenLemmas
pub mod ShapeLemmas
pub mod ListLemmas
pub mod NamedLemmas
pub mod RegionLemmas
pub mod PlainLemmas
pub mod FoundLemmas
