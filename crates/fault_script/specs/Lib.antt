pub mod Fits
pub mod Takes
pub mod Views
pub mod Refusals
pub mod Went
pub mod Says
pub mod Reads
pub mod Tells
