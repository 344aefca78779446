pub mod WithoutExamples
pub mod ChangesJson
pub mod Weakening
pub mod inner
