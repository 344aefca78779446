pub mod Dead
pub mod NewPackets
pub mod Pairs
pub mod Passing
pub mod Services
pub mod inner
pub mod laws
