pub mod FindingLaws
pub mod ListLaws
