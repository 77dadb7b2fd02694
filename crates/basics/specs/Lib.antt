pub mod Sum
pub mod Integer
pub mod Bit
