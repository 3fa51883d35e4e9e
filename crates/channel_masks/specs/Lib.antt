pub mod Asked
pub mod Gap
pub mod StandsFor
