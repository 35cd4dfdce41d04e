pub mod FrontLemmas
pub mod WorldLemmas
pub mod LawLemmas
pub mod LaterLemmas
pub mod RunLemmas
