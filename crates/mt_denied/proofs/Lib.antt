pub mod DeniedLemmas
