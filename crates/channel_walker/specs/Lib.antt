pub mod Table
pub mod Details
pub mod StandsFor
