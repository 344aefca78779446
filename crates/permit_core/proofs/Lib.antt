pub mod FirstLaws
pub mod Found
pub mod GrownLaws
pub mod PolicyLaws
pub mod Step
pub mod TrialLaws
pub mod TriedLaws
pub mod Turning
