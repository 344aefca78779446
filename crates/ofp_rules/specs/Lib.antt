pub mod Ambiguity
pub mod Deciders
pub mod Matching
pub mod Semantics
pub mod Text
pub mod inner
