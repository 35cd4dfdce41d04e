pub mod LoopLemmas
pub mod SweptLemmas
