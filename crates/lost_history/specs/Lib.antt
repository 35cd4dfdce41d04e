pub mod History
pub mod Rules
