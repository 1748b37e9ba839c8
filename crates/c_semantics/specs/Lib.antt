pub mod CMeaning
pub mod CState
pub mod CValues
pub mod Linking
pub mod Program
pub mod Reserved
pub mod SmallFiles
