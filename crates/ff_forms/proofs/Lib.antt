pub mod Cases
pub mod Chained
pub mod Chains
pub mod Lists
pub mod Members
pub mod Parted
pub mod Readings
pub mod Written
