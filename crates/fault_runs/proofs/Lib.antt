mod LineLemmas
mod RoundLemmas
mod ThreadLemmas
