mod Readable
mod Parts
mod Roomy
mod Answered
mod Convertible
mod Converted
pub mod Usable
pub mod Versions
pub mod ConverterLaws
pub mod Table
