pub mod WordLemmas
pub mod FirstFault
pub mod ContactLemmas
pub mod ClauseLemmas
