mod Ways
mod PartKeys
mod Turning
mod Split
