pub mod Counted
pub mod ArcEntries
pub mod Below
pub mod SumBounds
pub mod Groups
pub mod Users
pub mod Unused
pub mod DeadEnds
pub mod Numbering
pub mod Certificate
pub mod Excess
pub mod Overpayment
pub mod Search
pub mod ActiveGroup
pub mod Encoding
pub mod ExcessOf
pub mod Bounds
pub mod Runs
mod Spare
pub mod Core
pub mod UserSums
pub mod Bump
pub mod Inward
mod Smallest
mod Descent
pub mod LevelRule
pub mod LevelList
mod Rise
mod Raise
mod Meets
mod GroupSums
mod Weights
pub mod Shapley
pub mod Even
pub mod Keys
pub mod Gifts
pub mod NaturalShares
pub mod AddedCosts
pub mod EvenCore
pub mod ByArc
pub mod LevelKeys
pub mod PathKeys
pub mod LevelByKeys
pub mod LevelCosts
pub mod LevelGrows
pub mod HeldBounds
pub mod Raised
pub mod Adjusted
pub mod CoreLimits
pub mod CostsGrow
pub mod Rises
pub mod LevelFree
pub mod LevelBounds
pub mod Branched
pub mod Branch
mod OwnCost
mod MarginKept
mod MarginBound
pub mod Margin
