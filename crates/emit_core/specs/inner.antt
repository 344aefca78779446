pub mod EmitRefusals
pub mod Filling
pub mod KeptEntries
pub mod Link
pub mod RestEntries
pub mod UnnarrowedFlowTable
pub mod UnnarrowedLayout
