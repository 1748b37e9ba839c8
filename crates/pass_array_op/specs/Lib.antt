pub mod Bodies
pub mod Drawing
pub mod Examples
pub mod Greatest
pub mod Lowering
pub mod Prints
pub mod Units
