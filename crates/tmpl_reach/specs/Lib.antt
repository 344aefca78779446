pub mod Dependability
pub mod NonInterference
pub mod NoReach
pub mod inner
pub mod laws
