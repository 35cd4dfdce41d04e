pub mod LineKindLemmas
pub mod TextLemmas
