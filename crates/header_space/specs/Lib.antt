pub mod Boxes
pub mod Cuts
pub mod Matching
pub mod Order
pub mod Owners
pub mod Searching
pub mod Visits
pub mod inner
