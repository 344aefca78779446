pub mod Rules
pub mod Attributes
pub mod Template
pub mod inner
pub mod laws
