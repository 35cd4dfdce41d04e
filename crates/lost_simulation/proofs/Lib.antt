pub mod RunLemmas
pub mod CutLemmas
pub mod MirrorLemmas
pub mod DeskLemmas
pub mod ReaderLemmas
pub mod LawLemmas
pub mod LawfulLemmas
