mod Words
pub mod Beyond
mod Setting
