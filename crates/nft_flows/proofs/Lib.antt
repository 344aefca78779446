pub mod AlikeLaws
pub mod FlowLaws
mod MadeLaws
mod MetLaws
mod OrderLaws
mod ReachLaws
mod RemovalLaws
mod ResultLaws
mod SearchLaws
mod SpanLaws
mod TargetLaws
