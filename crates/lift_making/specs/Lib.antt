pub mod Levelled
pub mod Guarding
pub mod Jobs
pub mod Ways
pub mod Making
pub mod Playing
