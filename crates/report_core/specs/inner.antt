pub mod Growing
pub mod FlowStatusView
pub mod Rulings
pub mod Trying
