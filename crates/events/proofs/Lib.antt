mod Arrays
mod Made
mod Carried
pub mod OneToOne
