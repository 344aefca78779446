pub mod Candidates
pub mod Changing
pub mod Covering
pub mod Gaining
pub mod Listing
pub mod Naming
pub mod Serving
pub mod Sharing
