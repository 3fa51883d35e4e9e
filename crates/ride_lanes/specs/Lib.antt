pub mod Cells
pub mod Losses
pub mod Moments
pub mod Runs
pub mod Takers
pub mod Watches
