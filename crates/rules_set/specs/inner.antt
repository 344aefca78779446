pub mod Effects
pub mod Known
pub mod Walks
