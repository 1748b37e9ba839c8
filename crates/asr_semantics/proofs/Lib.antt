pub mod Larger
pub mod Longer
pub mod Monotone
pub mod Nodes
pub mod Related
pub mod Runs
