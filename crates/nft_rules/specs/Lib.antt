pub mod Loadable
pub mod Maps
pub mod Semantics
