pub mod EventLaws
pub mod ConnectionTableLaws
pub mod TrackingLaws
