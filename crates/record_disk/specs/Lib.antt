pub mod Disk
pub mod Image
pub mod Log
pub mod Memory
pub mod Present
