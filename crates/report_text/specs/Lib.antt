pub mod Report
pub mod Table
