pub mod Refining
pub mod StatefulLaws
