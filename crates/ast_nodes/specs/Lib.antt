pub mod Depth
pub mod Examples
pub mod Exprs
pub mod Fields
pub mod Node
pub mod Prints
pub mod Text
