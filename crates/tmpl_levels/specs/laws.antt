pub mod BlpLaws
pub mod TaintingLaws
