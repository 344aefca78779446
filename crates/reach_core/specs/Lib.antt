pub mod Walks
pub mod laws
pub mod inner
