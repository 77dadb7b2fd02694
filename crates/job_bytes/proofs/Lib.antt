mod Reading
pub mod Entries
pub mod Standing
pub mod Parts
pub mod PartsRead
pub mod ReadBack
mod Putting
pub mod Zeros
