pub mod CompareJson
pub mod inner
