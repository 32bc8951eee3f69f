mod GivingUpLemmas
mod PrefixLemmas
