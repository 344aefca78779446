pub mod EveryPacketLaws
pub mod ListLaws
pub mod NumberLaws
pub mod RulesLaws
