mod BranchPass
mod Given
mod RaisePass
mod Between
mod AtRaised
