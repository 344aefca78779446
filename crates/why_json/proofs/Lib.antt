pub mod ExplanationLaws
mod GapLaws
pub mod OffenceLaws
pub mod OneAnswerLaws
