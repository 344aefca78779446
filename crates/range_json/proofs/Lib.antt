pub mod RangeExampleLaws
pub mod OrderLaws
