pub mod EntryView
pub mod HostFacts
pub mod NameUseView
pub mod Refused
pub mod Walking
pub mod RawForm
pub mod RawView
