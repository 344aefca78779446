pub mod TemplateLaws
