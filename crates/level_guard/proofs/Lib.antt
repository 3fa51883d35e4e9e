pub mod SeenLemmas
pub mod Pushes
pub mod Permits
pub mod SupplyLemmas
