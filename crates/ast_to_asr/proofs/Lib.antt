pub mod Arguments
pub mod Builds
pub mod Calling
mod Constants
pub mod Converting
mod Entries
pub mod Functions
mod Joined
pub mod Leaves
pub mod Makings
pub mod Nodes
pub mod Numbers
pub mod Operations
mod Rules
mod Seen
pub mod Sources
pub mod Told
mod Trees
mod Variables
