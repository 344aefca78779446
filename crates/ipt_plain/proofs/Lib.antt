pub mod ArgumentsLaws
pub mod PortsLaws
pub mod PlainLaws
