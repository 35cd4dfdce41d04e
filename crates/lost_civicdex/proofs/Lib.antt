pub mod MadeLemmas
pub mod RequiredLemmas
pub mod HasLemmas
