pub mod Gateway
pub mod Kinds
pub mod Partners
pub mod Sink
pub mod Subnets
pub mod laws
pub mod inner
