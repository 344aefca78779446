pub mod Branching
pub mod Kept
pub mod Searching
