pub mod Calls
pub mod Commands
pub mod Scripts
pub mod Refusals
pub mod Feeding
