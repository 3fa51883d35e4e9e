pub mod Doing
pub mod Listed
pub mod Made
pub mod Ranges
