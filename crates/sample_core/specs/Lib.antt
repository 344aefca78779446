pub mod SampleTable
pub mod Sample
pub mod SamplePromises
pub mod inner
