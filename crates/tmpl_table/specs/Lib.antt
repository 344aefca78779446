pub mod KindTable
pub mod inner
pub mod laws
