mod ExcessPass
mod ActivePass
mod Bound
mod NamedGroup
