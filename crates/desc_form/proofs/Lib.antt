pub mod AddingLemmas
pub mod EntriesLaws
pub mod FactsLaws
pub mod FlowLaws
mod FoundLaws
pub mod HostsLaws
pub mod KeyLaws
pub mod NamesLaws
pub mod NoneLaws
pub mod ConflictLaws
pub mod RowLaws
pub mod ShallowFormLaws
pub mod SizesLaws
pub mod SpotsLaws
pub mod RawDescriptionLaws
pub mod RawUniqueLaws
