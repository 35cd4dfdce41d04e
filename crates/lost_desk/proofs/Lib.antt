pub mod DeskLemmas
pub mod EnterLemmas
pub mod ListLemmas
pub mod SeatLemmas
pub mod SetLemmas
pub mod StepLemmas
