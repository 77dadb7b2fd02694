mod AdjustedPass
mod Stopped
mod AtAdjusted
pub mod CapsAccepted
