pub mod Build
pub mod Deciding
pub mod Highest
pub mod Meeting
pub mod Next
pub mod Ranges
