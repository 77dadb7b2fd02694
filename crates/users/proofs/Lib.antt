pub mod Listed
pub mod Parts
mod StartPass
mod Walk
pub mod Laid
