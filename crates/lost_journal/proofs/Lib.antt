pub mod BodyLemmas
pub mod FrontLemmas
pub mod OutcomeLemmas
pub mod ReadingLemmas
pub mod SettledLemmas
