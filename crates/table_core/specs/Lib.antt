pub mod Keys
pub mod Listing
pub mod Shallow
pub mod Tables
pub mod inner
