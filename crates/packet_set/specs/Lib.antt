pub mod Finding
pub mod Nodes
pub mod Sets
pub mod inner
