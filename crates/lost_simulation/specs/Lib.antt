pub mod Clauses
pub mod Crew
pub mod Run
pub mod Law
