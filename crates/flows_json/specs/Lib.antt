pub mod WithoutExamples
pub mod FlowsJson
pub mod TableFlowsJson
pub mod inner
