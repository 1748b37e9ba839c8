pub mod Fine
pub mod Monotone
pub mod Nodes
mod Runs
