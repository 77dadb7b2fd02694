pub mod Keys
pub mod Bound
