pub mod BuildLaws
mod CutLaws
mod EvalLaws
pub mod FallLaws
mod LinkLaws
pub mod NameLaws
pub mod SendLaws
mod TableLaws
