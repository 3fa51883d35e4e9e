pub mod Slot
pub mod Record
pub mod Writing
pub mod Store
