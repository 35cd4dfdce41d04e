pub mod KeepingLemmas
pub mod KeptLemmas
