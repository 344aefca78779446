pub mod DomainView
