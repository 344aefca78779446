pub mod Cutting
pub mod Fields
pub mod Narrowing
pub mod Splitting
pub mod Visiting
