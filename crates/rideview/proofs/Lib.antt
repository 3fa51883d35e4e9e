pub mod Joining
pub mod Placing
pub mod Reading
pub mod Unmarked
