pub mod GatewayLaws
pub mod PartnersLaws
pub mod SinkLaws
pub mod SubnetsLaws
