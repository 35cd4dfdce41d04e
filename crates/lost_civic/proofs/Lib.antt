pub mod ElementLemmas
pub mod PairCopies
pub mod PairLemmas
pub mod PatternLemmas
pub mod Present
pub mod SignatureLemmas
pub mod SqueezedLemmas
pub mod TextLemmas
