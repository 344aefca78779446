pub mod ReachLaws
pub mod WalkLaws
