pub mod UnderNumberLemmas
pub mod RegionLemmas
pub mod RowLemmas
