pub mod Gives
pub mod Members
pub mod Requests
pub mod Desk
pub mod DeskLines
pub mod Lines
pub mod TreeParts
pub mod KnownMembers
