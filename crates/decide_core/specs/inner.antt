pub mod Classifying
pub mod Deciding
pub mod Flows
pub mod Marked
pub mod PairSets
pub mod ServiceBoxes
