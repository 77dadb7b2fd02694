pub mod Bools
pub mod Sums
pub mod Sizes
pub mod Lists
pub mod Integers
pub mod Filling
pub mod Totals
