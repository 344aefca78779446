pub mod Connections
pub mod EventSteps
pub mod FewerStates
pub mod FirewallFor
pub mod FlowPolicy
pub mod ConnectionTable
pub mod PolicyRuns
