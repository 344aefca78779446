pub mod CoverLaws
mod FillLaws
pub mod JumpLaws
pub mod MatchLaws
mod NameLaws
mod PartLaws
pub mod SayLaws
pub mod VerdictLaws
