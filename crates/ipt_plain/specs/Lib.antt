pub mod Arguments
pub mod Plain
pub mod inner
