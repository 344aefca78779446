pub mod DecidingLaws
