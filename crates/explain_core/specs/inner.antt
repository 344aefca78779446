pub mod Directions
pub mod Transitions
