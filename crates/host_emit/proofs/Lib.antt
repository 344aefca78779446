pub mod FlowEndLaws
pub mod GuardingLaws
pub mod LocalEventsLaws
pub mod LocalLayoutLaws
pub mod LocalWritableLaws
pub mod PassingLaws
pub mod PassingRows
