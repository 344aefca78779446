pub mod DependabilityLaws
pub mod NoReachLaws
pub mod NonInterferenceLaws
