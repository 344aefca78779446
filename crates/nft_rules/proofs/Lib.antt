pub mod EvalLaws
pub mod MapLaws
pub mod OneLaws
