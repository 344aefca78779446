pub mod Command
pub mod Reads
pub mod Replies
