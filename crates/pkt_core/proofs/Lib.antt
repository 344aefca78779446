pub mod AnyTrackingLaws
pub mod ConnectionLaws
mod ConnectionLemmas
pub mod EventFaultLaws
pub mod EventsRows
pub mod EventsTextLaws
pub mod ExpectedLaws
pub mod FewerStatesLaws
pub mod FilterLaws
pub mod FirstPacketLaws
pub mod PacketOrder
pub mod ReadEventLaws
