pub mod HostEnforcement
pub mod LocalEvents
pub mod LocalLayout
pub mod Delivery
pub mod inner
