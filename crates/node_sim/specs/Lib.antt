pub mod Produced
pub mod Producing
pub mod Standing
pub mod Laws
pub mod Audited
pub mod Heard
pub mod Hearing
pub mod Audits
