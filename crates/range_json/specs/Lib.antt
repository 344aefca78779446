pub mod WithoutExamples
pub mod RangeJson
