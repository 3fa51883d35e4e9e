pub mod Running
pub mod Writing
pub mod Storing
pub mod Promise
