pub mod ChangeExampleLaws
pub mod WeakeningExampleLaws
pub mod ChangesLaws
mod PlaceLaws
pub mod WeakeningLaws
pub mod WeakeningOnceLaws
