pub mod HostTable
pub mod MachineText
pub mod inner
