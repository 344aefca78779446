pub mod CheckLaws
mod FirstLaws
mod IntervalLaws
mod LoopLaws
pub mod OneLaws
