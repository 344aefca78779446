pub mod OutLimitLaws
