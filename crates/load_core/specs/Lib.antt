pub mod History
pub mod Orders
pub mod Program
pub mod Promises
pub mod Table
pub mod Words
pub mod inner
