pub mod Dead
pub mod Deciders
pub mod Flows
pub mod Places
pub mod Removal
pub mod inner
