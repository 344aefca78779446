pub mod Domains
pub mod Path
pub mod laws
pub mod inner
