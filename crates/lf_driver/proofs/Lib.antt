pub mod Exact
pub mod HeadlineLemmas
pub mod Names
pub mod OneFile
pub mod OnePrint
pub mod OneStatus
pub mod Saving
pub mod Showing
pub mod Sorting
mod SourceNames
pub mod Statuses
pub mod Straight
pub mod Tellings
pub mod Whole
pub mod Written
