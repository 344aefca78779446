mod AssemblyLaws
mod EntryLaws
mod OwnLaws
mod PartLaws
pub mod TextLaws
