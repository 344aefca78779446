pub mod Conditions
pub mod EveryFlow
pub mod Flow
pub mod FlowSet
pub mod HostSet
pub mod inner
pub mod laws
