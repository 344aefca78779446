pub mod Templates
pub mod inner
pub mod laws
