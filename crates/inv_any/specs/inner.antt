pub mod AnyTrials
pub mod Resets
pub mod Templates
