pub mod OneToOne
mod Writable
mod WriterAnswered
mod Roomy
mod Answered
pub mod Laws
pub mod WriterLaws
pub mod Table
