pub mod Composed
pub mod OneToOne
pub mod PassedOn
pub mod Reasons
