pub mod BooksLemmas
mod ReplyLemmas
pub mod ReplayLemmas
pub mod RunLemmas
pub mod CheckLemmas
