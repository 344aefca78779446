pub mod Receivers
pub mod Masters
