pub mod Invariants
pub mod Resets
pub mod Template
