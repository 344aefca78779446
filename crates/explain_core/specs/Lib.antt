pub mod Failing
pub mod Findings
pub mod Reasons
pub mod inner
