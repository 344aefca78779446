pub mod Cut
pub mod FieldTable
pub mod FlowLine
pub mod State
