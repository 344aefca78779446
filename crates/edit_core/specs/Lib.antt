pub mod Behind
pub mod Edit
pub mod Edited
pub mod EditsText
pub mod Runs
pub mod Summaries
pub mod inner
