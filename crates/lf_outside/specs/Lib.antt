pub mod Disk
pub mod DiskStore
pub mod Faults
pub mod MemDisk
pub mod Names
pub mod Streams
