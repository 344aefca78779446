pub mod CandidateLaws
pub mod ChangeLaws
pub mod GapLaws
pub mod ListLaws
pub mod NamingLaws
pub mod ServingLaws
pub mod SharingLaws
pub mod WeakerLaws
