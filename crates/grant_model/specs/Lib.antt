pub mod Runs
pub mod Watched
pub mod Took
pub mod Sensed
pub mod Steadily
