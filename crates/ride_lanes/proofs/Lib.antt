pub mod ChangeLemmas
pub mod LossLemmas
pub mod MomentLemmas
pub mod RunLemmas
