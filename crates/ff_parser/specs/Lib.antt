pub mod Pieces
pub mod Allowed
pub mod Names
pub mod Taken
pub mod Files
pub mod Grammar
