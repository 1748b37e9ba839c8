-- The C of the one program that is built means what the program says.
pub mod Agrees
pub mod Emits
pub mod Evaluates
pub mod Grammatical
pub mod Linked
pub mod PlainMain
pub mod ProgramNames
pub mod Temporaries
pub mod Values
