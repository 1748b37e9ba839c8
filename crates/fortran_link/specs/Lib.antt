pub mod Claims
pub mod Typed
