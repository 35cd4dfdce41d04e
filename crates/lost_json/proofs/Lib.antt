pub mod ListLemmas
pub mod StreamLemmas
pub mod OutcomeLemmas
pub mod FaultLemmas
