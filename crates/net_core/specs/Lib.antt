pub mod FailingFlows
pub mod Network
pub mod Policies
pub mod inner
