mod Arcs
mod BranchArc
pub mod Range
mod ShareRange
