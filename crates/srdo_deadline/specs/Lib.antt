pub mod Deadlines
pub mod Dated
