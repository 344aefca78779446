pub mod Grammar
pub mod Unwritten
pub mod TextLines
pub mod inner
