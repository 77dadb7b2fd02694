mod Digits
pub mod Table
