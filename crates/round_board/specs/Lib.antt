pub mod Tallies
pub mod Records
pub mod Collecting
pub mod Rule
pub mod Moves
pub mod Inside
pub mod Points
