pub mod Building
pub mod Cuts
pub mod Falls
pub mod Links
pub mod Sending
