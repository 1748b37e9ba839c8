pub mod Entities
pub mod Machine
pub mod Meaning
pub mod Program
pub mod Records
pub mod SmallPrograms
