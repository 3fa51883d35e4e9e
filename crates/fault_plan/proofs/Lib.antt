mod KeepLemmas
mod ListedLemmas
mod MadeLemmas
mod ReplayLemmas
