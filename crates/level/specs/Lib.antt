pub mod Refusals
pub mod Stops
