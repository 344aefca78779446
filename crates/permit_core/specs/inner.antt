pub mod Denied
pub mod Grown
pub mod Trials
pub mod Tried
