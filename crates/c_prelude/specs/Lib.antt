pub mod Prelude
pub mod PreludeFile
pub mod PreludeLaws
pub mod PreludeMachine
pub mod PreludeText
