pub mod DeadEntries
pub mod DeadPlaces
pub mod Deciders
pub mod Flows
pub mod ServiceRanges
pub mod inner
pub mod laws
