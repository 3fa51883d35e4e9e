pub mod Sees
pub mod StandsFor
pub mod Supplies
pub mod Permitted
pub mod Given
