pub mod Served
mod Loops
mod Narrowing
