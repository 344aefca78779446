pub mod OutLimit
