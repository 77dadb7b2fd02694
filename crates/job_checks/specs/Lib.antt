pub mod JobCheck
pub mod Inner
