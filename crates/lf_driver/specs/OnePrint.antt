-- The one program that is built: its source, what it is built of, what it does, and the C that it is lowered to.
pub mod Built
pub mod Emits
pub mod Fortran
pub mod Lowered
pub mod Programs
pub mod Source
