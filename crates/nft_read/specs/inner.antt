pub mod IntervalSteps
pub mod LineSteps
pub mod ReaderView
pub mod ServedView
pub mod Stops
pub mod TableSteps
