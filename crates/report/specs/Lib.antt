pub mod Names
pub mod Ticks
