mod AreaLemmas
pub mod DeadLemmas
mod MeetingLemmas
mod MetSetLemmas
mod NewPacketsLemmas
mod NewServicesLaws
pub mod PairLemmas
mod PairSurveyLaws
pub mod PlaceLaws
mod RangeLemmas
mod SurveyLemmas
mod SweepLemmas
