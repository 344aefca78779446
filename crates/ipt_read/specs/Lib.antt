pub mod Grammar
pub mod LineFault
pub mod Options
pub mod ParserStates
pub mod ServiceValues
pub mod TextLines
pub mod Values
pub mod inner
