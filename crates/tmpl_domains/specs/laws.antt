pub mod DomainsLaws
