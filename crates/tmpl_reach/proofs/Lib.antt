pub mod DeniedHosts
pub mod EachHost
pub mod OtherHosts
pub mod Still
