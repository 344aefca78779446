pub mod CheckReport
pub mod FlowPolicies
pub mod Names
pub mod PolicyReport
pub mod RefusalLine
pub mod ReportPromises
pub mod Trace
pub mod inner
