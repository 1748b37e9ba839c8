pub mod Constants
pub mod Declared
pub mod Meaning
pub mod SmallSources
