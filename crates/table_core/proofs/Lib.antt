pub mod KeyTables
pub mod ListingLaws
pub mod PrintedLaws
pub mod ShallowLaws
pub mod SortedLaws
pub mod TablesLaws
pub mod Views
