pub mod Alike
pub mod Chains
pub mod Counting
pub mod Depths
pub mod Enough
pub mod Equals
pub mod Fronts
pub mod Inside
pub mod Links
pub mod Matches
pub mod Monotone
pub mod Nearby
pub mod Outcomes
pub mod Printing
pub mod Runs
mod Samples
pub mod Stored
pub mod Stretches
