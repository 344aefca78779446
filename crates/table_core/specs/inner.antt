pub mod KeyView
pub mod Listing
