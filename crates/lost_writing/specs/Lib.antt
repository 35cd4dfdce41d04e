pub mod Replies
pub mod FoundLine
pub mod DeskReplies
pub mod PlainNames
pub mod Tokens
pub mod Written
pub mod Named
