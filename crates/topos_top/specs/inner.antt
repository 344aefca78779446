pub mod Command
pub mod Formats
pub mod Local
pub mod OutcomesReplies
pub mod Reads
pub mod Replies
pub mod Views
