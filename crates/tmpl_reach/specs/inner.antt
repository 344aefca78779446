pub mod EachOf
pub mod Interferences
pub mod NoReach
pub mod NoReachView
pub mod Resets
pub mod Trials
