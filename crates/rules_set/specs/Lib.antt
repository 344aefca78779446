pub mod Accepting
pub mod Meeting
pub mod Pairs
pub mod inner
