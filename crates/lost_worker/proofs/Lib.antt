pub mod CarryLemmas
pub mod ServingLemmas
pub mod SumLemmas
pub mod StageLemmas
pub mod DeskingLemmas
pub mod CacheLemmas
pub mod JudgeLemmas
