pub mod Numbers
pub mod Rules
pub mod RulesView
pub mod Verdicts
