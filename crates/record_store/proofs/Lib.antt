pub mod Slots
pub mod Clean
pub mod Staging
pub mod Appending
pub mod Scanning
pub mod Getting
pub mod Fronts
