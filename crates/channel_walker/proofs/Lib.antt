pub mod TableLemmas
pub mod WalkLemmas
