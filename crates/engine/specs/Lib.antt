pub mod Outcomes
pub mod Inner
