pub mod KeptLemmas
pub mod PieceLemmas
