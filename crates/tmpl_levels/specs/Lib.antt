pub mod Blp
pub mod Tainting
pub mod laws
pub mod inner
