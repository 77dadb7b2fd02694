pub mod FlagTests
pub mod Places
pub mod Filtered
mod Evaluating
mod Settling
mod Keeping
