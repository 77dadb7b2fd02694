pub mod FormAccepted
pub mod FillersAccepted
pub mod FormMade
mod Rows
pub mod WrittenAgain
