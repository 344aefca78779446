pub mod Counts
pub mod Failures
pub mod Observable
pub mod TerminalText
pub mod inner
