pub mod Example
pub mod Meaning
pub mod Numbered
pub mod Relation
pub mod Source
pub mod Target
pub mod Temporary
pub mod Translation
