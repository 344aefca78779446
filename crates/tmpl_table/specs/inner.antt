pub mod KindTable
pub mod TableFaults
pub mod TableView
