pub mod FlowLaws
pub mod HostSetLaws
pub mod WalkLaws
