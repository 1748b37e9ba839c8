pub mod Disks
pub mod Folders
pub mod KeptBack
pub mod Memory
pub mod Streams
pub mod Users
