pub mod Pieces
pub mod PutLaws
pub mod Reading
pub mod Stored
pub mod TerminalLaws
