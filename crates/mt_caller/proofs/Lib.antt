mod GatheredLemmas
mod MoveLemmas
