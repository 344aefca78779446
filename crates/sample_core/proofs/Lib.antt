pub mod AcceptedLaws
mod CountsLemmas
pub mod HostLaws
pub mod NumberLaws
mod OffenceLemmas
mod RunLemmas
pub mod SampleLaws
pub mod SamplePromisesLaws
mod TableLemmas
pub mod UseLaws
pub mod RawDescriptionLaws
