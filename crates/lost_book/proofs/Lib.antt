pub mod ChainLemmas
pub mod PositionLemmas
pub mod RefusalLemmas
pub mod TraceLemmas
