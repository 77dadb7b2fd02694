pub mod Reader
pub mod Converter
pub mod Laws
pub mod Table
pub mod Inner
