pub mod Changes
pub mod Names
pub mod Weaker
pub mod inner
