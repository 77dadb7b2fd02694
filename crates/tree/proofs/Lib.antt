pub mod Carry
pub mod Bounds
mod ListSums
pub mod MemberPass
pub mod InwardPass
mod SumPass
pub mod CapPass
pub mod UsePass
mod GroupPass
mod CountedPass
pub mod Vertices
pub mod MembersListed
pub mod LocalCosts
pub mod TreeAccepted
mod UserCounts
