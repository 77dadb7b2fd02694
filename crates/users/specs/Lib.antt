pub mod Users
pub mod Layout
