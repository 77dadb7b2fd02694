pub mod Bytes
pub mod Fields
pub mod Hex
pub mod Lists
