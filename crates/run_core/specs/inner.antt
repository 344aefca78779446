pub mod Forms
pub mod Blocks
pub mod DialectCalls
pub mod OutcomesReplies
pub mod Reads
pub mod Replies
pub mod StatusNumber
pub mod Views
