pub mod Numbers
pub mod Versions
pub mod JobBytes
pub mod Format
pub mod Inner
pub mod Lists
