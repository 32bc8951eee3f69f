-- The primaries of two keyspaces become others: that of the first shard of one, and all of the other's.
use Rattle.std.proofs.Common.{◌≡◌, ◌≢◌, ℕ, ◌<◌, true, List, length, sym, ap, ◌∙◌, subst, ⊎_elim, arith}
use Rattle.mt_names.specs.Names.{same_text}
use Rattle.mt_names.proofs.EntryLemmas.{same_or_other}
use Rattle.mt_names.proofs.SameLemmas.{same_text_decides}
use Rattle.mt_primary.proofs.PrimariesLemmas.{count-with_primary, count-with_shards, cuts-with_primary, cuts-with_shards, has-with_primary, has-with_shards, length-with_primary, length-with_shards, of-with_shards_here, primary-with_shards_elsewhere, with_primary-here, with_primary-other}
use Rattle.mt_primary.specs.Primaries.{Primaries, count_of, has_primaries, primary_in, primary_of, shards_of, with_primary, with_shards}
use Rattle.mt_primary.specs.Primary.{PrimaryState}
use Rattle.mt_steps.specs.Shards.{target_at}

module _ (old : Primaries) (source target : List ℕ) (at_source : PrimaryState) (targets : List PrimaryState) where
  abbrev first : Primaries
  first = with_primary old source 0 at_source

  abbrev pub both_set : Primaries
  both_set = with_shards (with_primary old source 0 at_source) target targets

  pub both_there : (keyspace : List ℕ) → has_primaries both_set keyspace ≡ has_primaries old keyspace
  both_there keyspace = has-with_shards first target targets keyspace ∙ has-with_primary old source 0 at_source keyspace

  pub both_length : length both_set ≡ length old
  both_length = length-with_shards first target targets ∙ length-with_primary old source 0 at_source

  pub both_cuts : (keyspace : List ℕ) → (shards_of both_set keyspace).cuts ≡ (shards_of old keyspace).cuts
  both_cuts keyspace = cuts-with_shards first target targets keyspace ∙ cuts-with_primary old source 0 at_source keyspace

  module _ (long : length targets ≡ count_of old target) where
    pub both_counts : (keyspace : List ℕ) → count_of both_set keyspace ≡ count_of old keyspace
    both_counts keyspace =
        count-with_shards first target targets (long ∙ sym (count-with_primary old source 0 at_source target)) keyspace ∙ count-with_primary old source 0 at_source keyspace

  module _ (apart : source ≢ target) (one : count_of old source ≡ 1) (target_there : has_primaries old target ≡ true) where
    source_now : primary_of both_set source 0 ≡ at_source
    source_now = primary-with_shards_elsewhere first target targets source 0 (λ e. apart (sym e)) ∙ with_primary-here old source 0 at_source (omega (arith, one))

    target_now : (n : ℕ) → primary_of both_set target n ≡ target_at targets n
    target_now n = ap (λ s. primary_in s n) (of-with_shards_here first target targets (has-with_primary old source 0 at_source target ∙ target_there))

    others_now : (keyspace : List ℕ) (n : ℕ) → source ≢ keyspace → target ≢ keyspace → primary_of both_set keyspace n ≡ primary_of old keyspace n
    others_now keyspace n s t = primary-with_shards_elsewhere first target targets keyspace n t ∙ with_primary-other old source 0 at_source keyspace n (λ e same. s e)

    -- what holds of these, and of the others as they were, holds of each
    pub of_each : (P : List ℕ → ℕ → PrimaryState → Type 0) → P source 0 at_source → ((n : ℕ) → n < count_of old target → P target n (target_at targets n))
        → ((keyspace : List ℕ) (n : ℕ) → source ≢ keyspace → target ≢ keyspace → n < count_of old keyspace → P keyspace n (primary_of old keyspace n))
        → (keyspace : List ℕ) (n : ℕ) → n < count_of old keyspace → P keyspace n (primary_of both_set keyspace n)
    of_each P s t others keyspace n within =
        ⊎_elim here (λ no_source. ⊎_elim there (λ no_target. subst (P keyspace n) (sym (others_now keyspace n no_source no_target)) (others keyspace n no_source no_target within))
        (same_or_other same_text same_text_decides target keyspace)) (same_or_other same_text same_text_decides source keyspace)
      where
        only : (m : ℕ) → m ≡ 0 → P source m (primary_of both_set source m)
        only m e = subst (λ k. P source k (primary_of both_set source k)) (sym e) (subst (P source 0) (sym source_now) s)

        here : source ≡ keyspace → P keyspace n (primary_of both_set keyspace n)
        here e = subst (λ k. P k n (primary_of both_set k n)) e (only n (let lt : n < count_of old source = subst (λ k. n < count_of old k) (sym e) within in omega (arith, lt, one)))

        there : target ≡ keyspace → P keyspace n (primary_of both_set keyspace n)
        there e = subst (λ k. P k n (primary_of both_set k n)) e (subst (P target n) (sym (target_now n)) (t n (subst (λ k. n < count_of old k) (sym e) within)))
