pub mod FindingLaws
pub mod LeastLaws
pub mod MinimalLaws
pub mod NumberLaws
pub mod ReasonLaws
pub mod TrialLaws
