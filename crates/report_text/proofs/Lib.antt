pub mod Table
mod Found
mod Joined
mod Reading
