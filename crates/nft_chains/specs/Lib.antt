pub mod Refusals
pub mod Translation
pub mod inner
