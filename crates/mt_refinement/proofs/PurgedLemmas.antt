-- Bases whose logs keep no whole segment that isn't needed.
use Rattle.std.proofs.Common.{◌≡◌, ◌≢◌, ◌⊎◌, inl, inr, ℕ, suc, ◌+◌, ◌-◌, ◌%◌, ◌≤◌, ◌<◌, Bool, true, false, cond, eqb, leb, List, [], ◌∷◌, length, Option, None, Some, refl, sym, ap, subst, ◌∙◌, arith}
use Rattle.std.proofs.lemmas.Bool.{eq-eqb, eqb-true, true≢false}
use Rattle.std.proofs.lemmas.Bool.Decides.{leb_tells}
use Rattle.std.proofs.lemmas.List.{length-append}
use Rattle.std.specs.Prelude.{Ok, Err}
use Rattle.mt_names.specs.Shards.{shard_of}
use Rattle.mt_model.specs.declared.rows.Op.{Op}
use Rattle.mt_model.specs.declared.rows.RowChange.{RowChange}
use Rattle.mt_model.specs.Rows.{op_key}
use Rattle.mt_store.specs.Log.{LogState, with_entry}
use Rattle.mt_plain.specs.Events.{Answer, Refusal, done, no_keyspace, refused}
use Rattle.mt_primary.specs.Primary.{PrimaryState, end_of, row_at}
use Rattle.mt_primary.specs.Writes.{RowPut, Writes, change_by, with_purge}
use Rattle.mt_stands.specs.Answers.{refusal_by}
use Rattle.mt_stands.specs.ByHand.{WritesAt, WritesRow}
use Rattle.mt_primary.specs.Primaries.{Primaries, ShardsState, count_of, place_of_key, primary_in, primary_of, shards_at, shards_of, with_primary}
use Rattle.mt_primary.proofs.PrimariesLemmas.{cuts-with_primary, shards_from_found, with_primary-each, with_primary-here, with_primary-twice}
use Rattle.mt_stands.specs.Base.{BaseState}
use Rattle.mt_stands.specs.Purges.{IsPurged, PurgesOne, first_needed, has_whole_segments, with_purge_of, with_purges, without_unneeded}
use Rattle.mt_stands.proofs.NeededLemmas.{NextTo, needed-le, needed-next, purge-end, purge-purged}
use Rattle.mt_refinement.proofs.PurgeLemmas.{all-at}
use Rattle.mt_refinement.proofs.WriteLemmas.{refused_same}

-- a log that is purged below what is needed
purged-here : (base : BaseState) (keyspace : List ℕ) (shard : ℕ) (new : PrimaryState) → new ≡ without_unneeded base.workflows keyspace shard (primary_of base.primaries keyspace shard)
    → first_needed base.workflows keyspace shard (end_of new) < new.log.purged + 256
purged-here base keyspace shard new is =
    let was = primary_of base.primaries keyspace shard in
    let needed = first_needed base.workflows keyspace shard (end_of was) in
    let end : end_of new ≡ end_of was = ap end_of is ∙ purge-end was needed (needed-le base.workflows keyspace shard (end_of was)) in
    subst (λ (s : PrimaryState). first_needed base.workflows keyspace shard (end_of new) < s.log.purged + 256) (sym is)
    (subst (λ n. first_needed base.workflows keyspace shard n < (with_purge was needed).log.purged + 256) (sym end) (purge-purged was needed))

pub all-purged : (base : BaseState) → IsPurged (with_purges base)
all-purged base keyspace shard = purged-here base keyspace shard (primary_of (with_purges base).primaries keyspace shard) (all-at base keyspace shard)

-- ---- a write

module _ (old : BaseState) (keyspace : List ℕ) (shard : ℕ) (purged : IsPurged old) (after : PrimaryState) where
  abbrev before : PrimaryState
  before = primary_of old.primaries keyspace shard

  abbrev written : BaseState
  written = record old { primaries = with_primary old.primaries keyspace shard after }

  abbrev IsFine : List ℕ → ℕ → PrimaryState → Type 0
  IsFine k n s = first_needed old.workflows k n (end_of s) < s.log.purged + 256

  -- each is fine if the one that is set is
  with-fine : (s : PrimaryState) → (shard < count_of old.primaries keyspace → IsFine keyspace shard s) → (k : List ℕ) (n : ℕ) → IsFine k n (primary_of (with_primary old.primaries keyspace shard s) k n)
  with-fine s here k n =
      with_primary-each old.primaries keyspace shard s (λ j m was is. IsFine j m was → IsFine j m is) (λ j m q fine. fine) (λ within fine. here within) k n (purged k n)

  refused-purged : after ≡ before → IsPurged written
  refused-purged same = with-fine after (λ within. subst (IsFine keyspace shard) (sym same) (purged keyspace shard))

  module _ (change : RowChange) (logged : after.log ≡ with_entry before.log change) where
    end-now : end_of after ≡ suc (end_of before)
    end-now =
        let a = ap (λ (l : LogState). l.purged) logged in
        let b = ap (λ (l : LogState). length l.entries) logged in
        let c = length-append before.log.entries (change ∷ []) in
        omega (arith, a, b, c)

    before-fine : first_needed old.workflows keyspace shard (end_of before) < before.log.purged + 256
    before-fine = purged keyspace shard

    -- a segment isn't whole yet
    open-fine : has_whole_segments after ≡ false → first_needed old.workflows keyspace shard (end_of after) < after.log.purged + 256
    open-fine part = subst (λ n. first_needed old.workflows keyspace shard n < after.log.purged + 256) (sym end-now) (by (needed-next old.workflows keyspace shard (end_of before)))
      where
        same : after.log.purged ≡ before.log.purged
        same = ap (λ (l : LogState). l.purged) logged

        by : NextTo (suc (end_of before)) (first_needed old.workflows keyspace shard (end_of before)) (first_needed old.workflows keyspace shard (suc (end_of before)))
            → first_needed old.workflows keyspace shard (suc (end_of before)) < after.log.purged + 256
        by (inl e) = let f = before-fine in omega (arith, e, f, same)
        by (inr e) = tell (eqb (end_of after - after.log.purged) 256) refl
          where
            more : first_needed old.workflows keyspace shard (suc (end_of before)) ≡ suc (first_needed old.workflows keyspace shard (end_of before))
            more = e.0

            at_end : first_needed old.workflows keyspace shard (suc (end_of before)) ≡ suc (end_of before)
            at_end = e.1

            tell : (b : Bool) → eqb (end_of after - after.log.purged) 256 ≡ b → first_needed old.workflows keyspace shard (suc (end_of before)) < after.log.purged + 256
            tell true whole =
                let kept : end_of after - after.log.purged ≡ 256 = eqb-true (end_of after - after.log.purged) 256 whole in
                absurd (true≢false (sym (ap (λ n. eqb (n % 256) 0) kept) ∙ part))
            tell false other =
                let apart : end_of after - after.log.purged ≢ 256 = (λ h. true≢false (sym (eq-eqb (end_of after - after.log.purged) 256 h) ∙ other)) in
                let f = before-fine in
                let end = end-now in
                below (leb_tells (first_needed old.workflows keyspace shard (suc (end_of before))) (after.log.purged + 255)) apart f end
              where
                below : ((leb (first_needed old.workflows keyspace shard (suc (end_of before))) (after.log.purged + 255) ≡ true) × (first_needed old.workflows keyspace shard (suc (end_of before)) ≤ after.log.purged + 255))
                    ⊎ ((leb (first_needed old.workflows keyspace shard (suc (end_of before))) (after.log.purged + 255) ≡ false) × (after.log.purged + 255 < first_needed old.workflows keyspace shard (suc (end_of before))))
                    → end_of after - after.log.purged ≢ 256 → first_needed old.workflows keyspace shard (end_of before) < before.log.purged + 256 → end_of after ≡ suc (end_of before)
                    → first_needed old.workflows keyspace shard (suc (end_of before)) < after.log.purged + 256
                below (inl t) apart f end = let le = t.1 in omega (arith, le)
                below (inr t) apart f end =
                    let lt = t.1 in
                    absurd (apart (omega (arith, lt, f, end, more, at_end, same)))

    at-last : (new : BaseState) → new ≡ cond (has_whole_segments (primary_of written.primaries keyspace shard)) (with_purge_of keyspace shard written) written → IsPurged new
    at-last new gets = subst IsPurged (sym gets) (by (has_whole_segments (primary_of written.primaries keyspace shard)) refl)
      where
        by : (b : Bool) → has_whole_segments (primary_of written.primaries keyspace shard) ≡ b → IsPurged (cond b (with_purge_of keyspace shard written) written)
        by true whole =
            let last = without_unneeded old.workflows keyspace shard (primary_of written.primaries keyspace shard) in
            subst (λ (ps : Primaries). (k : List ℕ) (n : ℕ) → IsFine k n (primary_of ps k n)) (sym (with_primary-twice old.primaries keyspace shard after last))
            (with-fine last (λ within. purged-here written keyspace shard last refl))
        by false part = with-fine after (λ within. open-fine (ap has_whole_segments (sym (with_primary-here old.primaries keyspace shard after within)) ∙ part))

-- behind the write the key stands in the same shard
module _ (old made : BaseState) (keyspace : List ℕ) (op : Op) (shards : ShardsState) (found : shards_at old.primaries keyspace ≡ Some shards) (after : PrimaryState) where
  abbrev place : ℕ
  place = place_of_key shards (op_key op)

  are : shards ≡ shards_of old.primaries keyspace
  are = sym (shards_from_found old.primaries keyspace shards found)

  still : made ≡ record old { primaries = with_primary old.primaries keyspace place after } → place_of_key (shards_of made.primaries keyspace) (op_key op) ≡ place
  still is =
      ap (λ (m : BaseState). shard_of (shards_of m.primaries keyspace).cuts (op_key op)) is
      ∙ ap (λ cuts. shard_of cuts (op_key op)) (cuts-with_primary old.primaries keyspace place after keyspace ∙ ap (λ (s : ShardsState). s.cuts) (sym are))

  at_place : primary_in shards place ≡ primary_of old.primaries keyspace place
  at_place = ap (λ s. primary_in s place) are

pub written-purged : (old made new : BaseState) (keyspace table : List ℕ) (op : Op) (answer : Answer) → IsPurged old → WritesRow old keyspace table op answer made
    → PurgesOne keyspace (place_of_key (shards_of made.primaries keyspace) (op_key op)) answer made new → IsPurged new
written-purged old made new keyspace table op answer purged = by (shards_at old.primaries keyspace) refl
  where
    refused-same : (shard : ℕ) (answer : Answer) → (r : Refusal) → answer ≡ refused r → PurgesOne keyspace shard answer made new → new ≡ made
    refused-same shard answer r is gets = let g : PurgesOne keyspace shard (refused r) made new = subst (λ a. PurgesOne keyspace shard a made new) is gets in g

    by : (o : Option ShardsState) → shards_at old.primaries keyspace ≡ o → WritesAt o old keyspace table op answer made
        → PurgesOne keyspace (place_of_key (shards_of made.primaries keyspace) (op_key op)) answer made new → IsPurged new
    by None none did gets = subst IsPurged (sym (refused-same (place_of_key (shards_of made.primaries keyspace) (op_key op)) answer no_keyspace did.0 gets ∙ did.1)) purged
    by (Some shards) found (Ok position, after, wrote, told, is) gets =
        let n = place_of_key shards (op_key op) in
        let g : PurgesOne keyspace n done made new = subst (λ a. PurgesOne keyspace n a made new) told (subst (λ m. PurgesOne keyspace m answer made new) (still old made keyspace op shards found after is) gets) in
        let before = primary_of old.primaries keyspace n in
        let put : RowPut = record { table = table; key = op_key op; after = row_at after table (op_key op) } in
        let did : Writes before table op (Ok position) after = subst (λ s. Writes s table op (Ok position) after) (at_place old made keyspace op shards found after) wrote in
        at-last old keyspace n purged after (change_by before put) did.put.log new
        (g ∙ ap (λ (m : BaseState). cond (has_whole_segments (primary_of m.primaries keyspace n)) (with_purge_of keyspace n m) m) is)
    by (Some shards) found (Err fault, after, wrote, told, is) gets =
        let n = place_of_key shards (op_key op) in
        subst IsPurged (sym (refused-same (place_of_key (shards_of made.primaries keyspace) (op_key op)) answer (refusal_by fault) told gets ∙ is))
        (refused-purged old keyspace n purged after (refused_same (primary_in shards n) after table op fault wrote ∙ at_place old made keyspace op shards found after))
