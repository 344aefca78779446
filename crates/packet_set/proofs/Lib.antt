pub mod HasLaws
pub mod KnownLaws
pub mod MemberLaws
pub mod BranchLaws
pub mod KeptLaws
pub mod RangeLaws
pub mod FindLaws
