pub mod SampleCounts
pub mod SampleRaw
pub mod TableParts
