pub mod LayoutNames
pub mod inner
