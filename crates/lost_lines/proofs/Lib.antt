pub mod SendLemmas
pub mod CuttingLemmas
pub mod RunLemmas
pub mod ServingLemmas
pub mod ResultLemmas
pub mod CutterLemmas
pub mod StreamLemmas
pub mod OutcomeLemmas
