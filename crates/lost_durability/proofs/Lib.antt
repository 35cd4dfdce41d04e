pub mod SurvivalLemmas
pub mod UniqueLemmas
