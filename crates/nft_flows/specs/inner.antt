pub mod ChainRules
pub mod Search
pub mod Selected
pub mod Spans
