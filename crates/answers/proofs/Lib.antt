pub mod Accepted
pub mod DeadEnds
pub mod Limits
pub mod Laws
pub mod AuditLaws
pub mod CoreLaws
pub mod LevelFits
mod LevelAnswered
mod LevelGiven
pub mod NoFloors
mod LevelRefusals
pub mod LevelLaws
pub mod LevelKeys
pub mod DearerLaws
pub mod RunningSums
pub mod CapSumsLaws
pub mod LevelStops
pub mod ParentOrder
pub mod ParentPlaces
pub mod ParentSteps
pub mod ParentListsLaws
pub mod Table
pub mod InRange
mod InTurn
mod CorePasses
pub mod ByArcLaws
pub mod ClassParts
pub mod Classed
pub mod ClassesLaws
pub mod OneClass
pub mod BranchLaws
pub mod MarginLaws
pub mod Together
pub mod Unused
pub mod StubClasses
pub mod Reached
pub mod Numbers
pub mod MadeStates
pub mod EventLaws
mod Committed
pub mod QuoteLaws
pub mod OneByOne
