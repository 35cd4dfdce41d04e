pub mod CoverLemmas
mod TokenLemmas
