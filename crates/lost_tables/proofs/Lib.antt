pub mod LookupLemmas
pub mod TableLemmas
pub mod PickLemmas
pub mod RisingLemmas
pub mod WalkLemmas
pub mod ChunkLemmas
pub mod NumberedLemmas
