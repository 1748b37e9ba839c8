pub mod Branches
pub mod Depths
pub mod FileItems
pub mod FirstValues
pub mod Laid
pub mod LaidStatements
pub mod Naming
pub mod Nodes
pub mod SavedVariables
mod Small
pub mod StatementDepths
pub mod Temps
pub mod Typing
pub mod UnitRoots
pub mod Variables
pub mod Writes
