pub mod OneToOne
mod BranchSplit
mod NamedSize
mod ProposalAccepted
mod Difference
mod LevelAnswer
mod ClassMembers
