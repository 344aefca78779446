pub mod PartnersView
pub mod Resets
