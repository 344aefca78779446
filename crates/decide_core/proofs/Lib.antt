pub mod ClassifyingLemmas
mod DeadLemmas
mod DecidingLemmas
mod FlowLemmas
mod MarkedLemmas
mod PairSetLemmas
mod RemovalLaws
mod ServiceLemmas
