pub mod Begun
pub mod Calls
pub mod FaultPlan
pub mod MemShelf
pub mod MemShelfCode
pub mod MemSink
pub mod StoredFiles
pub mod Take
