pub mod Reader
pub mod Writer
pub mod Laws
pub mod WriterLaws
pub mod Table
