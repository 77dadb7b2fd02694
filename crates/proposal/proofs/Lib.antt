mod Signed
pub mod Sums
