pub mod AdmissionLemmas
pub mod BurstLemmas
pub mod ConnectedLemmas
pub mod FaultLemmas
pub mod LawLemmas
pub mod SentLemmas
pub mod ServedLemmas
pub mod TakeLemmas
