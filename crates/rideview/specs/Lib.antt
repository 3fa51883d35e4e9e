pub mod Data
pub mod Feeding
pub mod Form
pub mod Safe
