pub mod HostFirewalls
pub mod LocalFilling
pub mod Passing
