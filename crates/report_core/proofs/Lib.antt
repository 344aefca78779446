mod LineLemmas
mod OffenceLemmas
mod Pushing
pub mod ReportLaws
pub mod ReportPromisesLaws
mod FlowStatusLemmas
mod Steps
pub mod TraceLaws
mod Worked
mod ZipLaws
