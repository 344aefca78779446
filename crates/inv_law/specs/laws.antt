pub mod AttributeLaws
pub mod DefaultLaws
pub mod RuleLaws
pub mod TemplateLaws
