pub mod Denying
pub mod Fitting
pub mod Wanting
