pub mod Reading
pub mod Shape
pub mod inner
