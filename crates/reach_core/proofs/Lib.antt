pub mod Closes
pub mod Counts
pub mod JoinRows
pub mod Opening
pub mod ReachRows
pub mod Shows
pub mod Widened
