-- All primaries, and those of a keyspace as a table is made.
use Rattle.std.proofs.Common.{◌≡◌, ◌-◌, ◌<◌, ⊎_elim, ℕ, suc, Bool, true, false, List, [], ◌∷◌, ◌++◌, length, map, take, Some, Result, Ok, Err, refl, sym, ap, subst, ◌∙◌, arith}
use Rattle.std.proofs.lemmas.Bool.{cases_lt, true≢false}
use Rattle.std.proofs.Math.Seq.{take-append_seam}
use Rattle.std.proofs.lemmas.List.{length_push}
use Rattle.std.specs.Prelude.{⊤, ◌||◌, MatchResult}
use Rattle.std.specs.Result.{OnErr, OnOk, is_err}
use Rattle.mt_names.specs.Names.{same_text}
use Rattle.mt_names.proofs.SameLemmas.{same_text_decides}
use Rattle.mt_model.specs.declared.faults.PrimaryFault.{PrimaryFault}
use Rattle.mt_plain.specs.Plain.{among}
use Rattle.mt_primary.proofs.PrimariesLemmas.{primary_past, there_from_count, with_shards-same}
use Rattle.mt_primary.specs.Places.{IsAt}
use Rattle.mt_primary.specs.Primaries.{Primaries, ShardsState, count_of, has_primaries, primary_of, shards_of, with_shards}
use Rattle.mt_primary.specs.Primary.{IsPrimary, PrimaryState, empty_primary, has_table}
use Rattle.mt_primary.specs.Writes.{with_new_table, without_table}
use Rattle.mt_stands.proofs.BridgeLemmas.{made_and_dropped_in_order}
use Rattle.mt_site.specs.ByHand.{CreatesTable}

-- ---- what is true of every primary

-- a keyspace that is there stands at a place
stands_somewhere : (ps : Primaries) (k : List ℕ) → has_primaries ps k ≡ true → (place : ℕ) × IsAt ps k place × (place < length ps)
stands_somewhere [] k there = absurd (true≢false (sym there))
stands_somewhere (e ∷ es) k there = by (λ rest. stands_somewhere es k rest) (same_text k e.0) refl there
  where
    by : (has_primaries es k ≡ true → (place : ℕ) × IsAt es k place × (place < length es)) → (t : Bool) → same_text k e.0 ≡ t → has_primaries (e ∷ es) k ≡ true
        → (place : ℕ) × IsAt (e ∷ es) k place × (place < length (e ∷ es))
    by rest true is there = (0, ap Some (sym ((same_text_decides k e.0).0 is)), omega arith)
    by rest false is there =
        let found = rest (let h = rw is at there in h) in
        (suc found.0, found.1, let below = found.2 in omega (arith, below))

-- of those of each place, and so of all
abbrev pub ArePlaces : Primaries → (end : ℕ) → Type 0
ArePlaces ps end = (keyspace : List ℕ) (place : ℕ) → place < end → IsAt ps keyspace place → (shard : ℕ) → shard < count_of ps keyspace → IsPrimary (primary_of ps keyspace shard)

pub all-of : (ps : Primaries) → IsPrimary empty_primary → ArePlaces ps (length ps) → (keyspace : List ℕ) (shard : ℕ) → IsPrimary (primary_of ps keyspace shard)
all-of ps none are k n =
    ⊎_elim (λ below. let at = stands_somewhere ps k (there_from_count ps k n below) in are k at.0 at.2 at.1 n below)
    (λ past. subst IsPrimary (sym (primary_past ps k n past)) none) (cases_lt n (count_of ps k))

-- ---- a keyspace that is added in vain

pub popped : (ps : Primaries) (e : List ℕ × ShardsState) → take (length (ps ++ e ∷ []) - 1) (ps ++ e ∷ []) ≡ ps
popped ps e = ap (λ n. take n (ps ++ e ∷ [])) (let l = length_push ps e in let m : length (ps ++ e ∷ []) - 1 ≡ length ps = omega (arith, l) in m) ∙ take-append_seam ps (e ∷ [])

-- what is added, or not
pub added : {A E : Type 0} (P Q : Type 0) (r : Result A E) → is_err r ≡ false → MatchResult r (λ _. P) (λ _. Q) → P
added P Q (Ok done) is holds = holds
added P Q (Err fault) is holds = absurd (true≢false is)

pub not_added : {A E : Type 0} (P Q : Type 0) (r : Result A E) → is_err r ≡ true → MatchResult r (λ _. P) (λ _. Q) → Q
not_added P Q (Ok done) is holds = absurd (true≢false (sym is))
not_added P Q (Err fault) is holds = holds

-- ---- a table

-- one that is made and dropped again leaves the primary as it was
pub made_and_dropped : (p : PrimaryState) (table : List ℕ) → has_table p table ≡ false → without_table (with_new_table p table) table ≡ p
made_and_dropped p table absent = made_and_dropped_in_order (table ∷ []) p named_absent
  where
    named_absent : (other : List ℕ) → among (table ∷ []) other ≡ true → has_table p other ≡ false
    named_absent other is = ap (has_table p) (named (same_text table other) refl is) ∙ absent
      where
        named : (t : Bool) → same_text table other ≡ t → (t || false) ≡ true → other ≡ table
        named true e holds = sym ((same_text_decides table other).0 e)
        named false e holds = absurd (true≢false (sym holds))

-- one that is made at each primary that was lent of its keyspace, or at none
pub table_created : (old new : Primaries) (keyspace table : List ℕ) (each : List PrimaryState) (r : Result ⊤ PrimaryFault) → new ≡ with_shards old keyspace each
    → OnOk r (each ≡ map (λ primary. with_new_table primary table) (shards_of old keyspace).each) → OnErr r (each ≡ (shards_of old keyspace).each) → CreatesTable old keyspace table r new
table_created old new keyspace table each (Ok done) put made left = put ∙ ap (with_shards old keyspace) made
table_created old new keyspace table each (Err fault) put made left = put ∙ ap (with_shards old keyspace) left ∙ with_shards-same old keyspace

-- what could not be created changed nothing
pub not_created : (old new : Primaries) (keyspace table : List ℕ) (r : Result ⊤ PrimaryFault) → is_err r ≡ true → CreatesTable old keyspace table r new → new ≡ old
not_created old new keyspace table (Ok done) e did = absurd (true≢false (sym e))
not_created old new keyspace table (Err fault) e did = did
