pub mod Laws
pub mod States
pub mod Closing
pub mod Lists
pub mod Found
pub mod Nested
pub mod Leading
pub mod Written
