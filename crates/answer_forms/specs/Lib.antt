pub mod Answer
pub mod Checked
pub mod Reasons
