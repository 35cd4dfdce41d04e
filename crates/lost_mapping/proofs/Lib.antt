pub mod AsciiLemmas
pub mod BoolLemmas
pub mod CalendarLemmas
pub mod DigitLemmas
mod MappedLemmas
pub mod PartsLemmas
pub mod ShapeLemmas
pub mod SourceLemmas
pub mod StampLemmas
mod UriLemmas
pub mod FoldLemmas
