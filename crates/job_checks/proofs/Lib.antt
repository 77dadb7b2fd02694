pub mod Accepted
pub mod Counted
pub mod Zeros
pub mod Made
pub mod Plain
pub mod Lent
pub mod Marked
pub mod Written
