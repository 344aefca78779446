pub mod EffectLaws
pub mod KnownLaws
pub mod PairLaws
pub mod WalkLaws
