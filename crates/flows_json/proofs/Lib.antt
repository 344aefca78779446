pub mod DeadExampleLaws
pub mod FlowExampleLaws
pub mod TableExampleLaws
pub mod FlowsLaws
