pub mod IntervalLaws
mod MatchRound
mod NameLaws
mod PieceLaws
mod ShapeLaws
mod ShapeTests
mod TableRound
pub mod WholeLaws
mod WordRound
