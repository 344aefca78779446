pub mod Policy
pub mod inner
