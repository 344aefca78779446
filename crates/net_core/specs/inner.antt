pub mod Asking
pub mod EdgePolicies
pub mod FailingFlows
pub mod Fitting
pub mod Policed
