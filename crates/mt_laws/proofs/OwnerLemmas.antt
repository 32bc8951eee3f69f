-- A side whose primary doesn't refuse a moved table is the owner.
use Rattle.std.proofs.Common.{◌≡◌, ◌⊎◌, inl, inr, ℕ, ◌-◌, Bool, true, false, not, cond, eqb, List, Option, None, Some, refl, sym, ap, ◌∙◌, arith}
use Rattle.std.proofs.lemmas.Bool.{true≢false, not-false, or_cases}
use Rattle.std.specs.Prelude.{◌||◌}
use Rattle.mt_names.specs.Shards.{shard_count}
use Rattle.mt_names.specs.declared.types.TypeSet.{TypeSet}
use Rattle.mt_names.specs.Names.{same_text}
use Rattle.mt_names.proofs.SameLemmas.{same_text_decides}
use Rattle.mt_plain.specs.Events.{Event, Way}
use Rattle.mt_plain.specs.Next.{live_stepped, live_undone, types_and, types_without, closes, with_way_to}
use Rattle.mt_plain.specs.Plain.{Live, Plain, changes_primary, differ, is_side, mover, moves, next_step, owner, refresh_source, refresh_target, stands_done, stands_done_at, write_journal}
use Rattle.mt_plain.specs.Serve.{refuses}
use Rattle.mt_plain.specs.Slots.{live_advanced}
use Rattle.mt_laws.specs.WayBack.{IsReached}
use Rattle.mt_laws.proofs.ChangeLemmas.{made_live}
use Rattle.mt_laws.proofs.LiveLemmas.{IsIn, find_some}
use Rattle.mt_laws.proofs.PartLemmas.{HasParts, IsSettled}
use Rattle.mt_laws.proofs.PlainWords.{list_types_by_way}
use Rattle.mt_laws.proofs.KeepLemmas.{Keeps}
use Rattle.mt_laws.proofs.ReachLemmas.{reached_have}
use Rattle.mt_laws.proofs.UntouchedLemmas.{traffic-advanced}
use Rattle.mt_laws.proofs.WayLemmas.{undo_before_journal}
use Rattle.mt_laws.proofs.WayStepLemmas.{before_then, done_at_all, done_at_some, done_in_order, fewer, more, no_way_holds, none_done, was_done, way_holds, way_holds-by}
use Rattle.mt_laws.proofs.WritableLemmas.{before_by, owner-if, primary-step, refused-source, refused-target, step_by}

-- ---- behind the journal the switched types are those from after the way

abbrev pub IsJournaled : Live → Type 0
IsJournaled w = (way : Way) → w.way ≡ Some way → stands_done way write_journal ≡ true → w.switched ≡ way.after

-- of an open way
abbrev Journaled : Live → Way → Type 0
Journaled w way = stands_done way write_journal ≡ true → w.switched ≡ way.after

journaled_same : (w v : Live) → v.way ≡ w.way → v.switched ≡ w.switched → IsJournaled w → IsJournaled v
journaled_same w v same_way same_switched holds way opens journaled = same_switched ∙ holds way (sym same_way ∙ opens) journaled

-- a step leaves a way that has come to its end, or has one step more done
stepped_journaled : (v : Live) (way : Way) → v.way ≡ cond (closes way) None (Some (more way)) → (stands_done (more way) write_journal ≡ true → closes way ≡ false → v.switched ≡ way.after) → IsJournaled v
stepped_journaled v way now holds = way_holds-by (Journaled v) v (closes way) (more way) now (λ goes_on journaled. holds journaled goes_on)

step_journaled : (p : Plain) (w : Live) (way : Way) → w.way ≡ Some way → IsJournaled w → IsJournaled (live_stepped p w way)
step_journaled p w way opens holds = stepped_journaled (live_stepped p w way) way refl (λ journaled goes_on. ap (λ l. cond (l || journals) way.after w.switched) goes_on ∙ by journals refl journaled)
  where
    journals : Bool
    journals = eqb (next_step way) write_journal

    by : (t : Bool) → journals ≡ t → stands_done (more way) write_journal ≡ true → cond journals way.after w.switched ≡ way.after
    by true e journaled = ap (λ l. cond l way.after w.switched) e
    by false e journaled = ap (λ l. cond l way.after w.switched) e ∙ holds way opens (before_then way write_journal e journaled)

undo_journaled : (w : Live) (way : Way) → stands_done way write_journal ≡ false → IsJournaled (live_undone w way)
undo_journaled w way before = way_holds-by (Journaled (live_undone w way)) (live_undone w way) (eqb (way.done - 1) 0) (fewer way) refl (λ goes_on e. absurd (true≢false (sym (was_done way write_journal e) ∙ before)))

begin_journaled : (backward : Bool) (change : TypeSet → TypeSet) (w : Live) → IsJournaled (with_way_to backward change w)
begin_journaled backward change w =
    way_holds (Journaled w) (with_way_to backward change w) way refl (λ e. absurd (true≢false (sym e ∙ none_done way 5 refl)))
  where
    way : Way
    way = record { back = backward; shards = shard_count w.cuts; before = w.switched; after = change w.switched; done = 0; undoing = false }

journaled_kept : (p : Plain) (event : Event) (w : Live) → IsJournaled w → Keeps IsJournaled p event w
journaled_kept p event w holds = record {
  same = holds;
  switch = λ types begins none. begin_journaled false (λ switched. types_and switched types) w;
  reverse = λ types begins none. begin_journaled true (λ switched. types_without switched types) w;
  steps = λ at way steps opens none. step_journaled p w way opens holds;
  undoes = λ at way undoes opens none. undo_journaled w way (undo_before_journal at w way opens none);
  advances = λ adv workflow stream shard at at_most events rows live none given.
      let same = traffic-advanced p w stream shard at at_most events rows in
      journaled_same w (live_advanced p w stream shard at at_most events rows) (ap (λ t. t.1) same) (ap (λ t. t.0) same) holds;
}

pub reached_journaled : (p : Plain) → IsReached p → (w : Live) → IsIn w p.lives → IsJournaled w
reached_journaled = reached_have IsJournaled (λ p name source target tables. no_way_holds (Journaled (made_live p name source target tables)) (made_live p name source target tables) refl) journaled_kept

-- ---- a side that doesn't refuse

-- by whether primary was switched before the way and is after it and now, and whether the refreshes and the journal stand done
source_owns : (before after now refreshed journaled allowed : Bool) → (journaled ≡ false → now ≡ before) → (journaled ≡ true → now ≡ after)
    → (journaled ≡ true → refreshed ≡ true) → (allowed ≡ true → journaled ≡ true) → cond (cond (not before) refreshed allowed) after before ≡ false → now ≡ false
source_owns false a s r false d settled leads order later e = settled refl
source_owns false a s r true d settled leads order later e = leads refl ∙ sym (ap (λ t. cond t a false) (order refl)) ∙ e
source_owns true a s r j true settled leads order later e = leads (later refl) ∙ e
source_owns true a s r j false settled leads order later e = absurd (true≢false e)

target_owns : (before after now refreshed journaled allowed : Bool) → (journaled ≡ false → now ≡ before) → (journaled ≡ true → now ≡ after)
    → (journaled ≡ true → refreshed ≡ true) → (allowed ≡ true → journaled ≡ true) → not (cond (cond before refreshed allowed) after before) ≡ false → now ≡ true
target_owns true a s r false d settled leads order later e = settled refl
target_owns true a s r true d settled leads order later e =
    leads refl ∙ not-false a (sym (ap (λ t. not (cond t a true)) (order refl)) ∙ e)
target_owns false a s r j true settled leads order later e = leads (later refl) ∙ not-false a e
target_owns false a s r j false settled leads order later e = absurd (true≢false e)

module _ (w : Live) (settled : IsSettled w) (journaled : IsJournaled w) (shard : ℕ) where
  -- the journal stands between the refreshes, for each shard
  refreshed_before : (way : Way) → stands_done way write_journal ≡ true → stands_done_at way refresh_source shard ≡ true
  refreshed_before way t = done_at_all way refresh_source shard (done_in_order way 1 write_journal (omega arith) t)

  journaled_before : (way : Way) → stands_done_at way refresh_target shard ≡ true → stands_done way write_journal ≡ true
  journaled_before way t = done_at_some way refresh_target shard 5 t (omega arith)

  allowed_at_source : (o : Option Way) → w.way ≡ o → (list_types_by_way w.switched o (step_by (not (before_by w.switched o).primary)) shard).primary ≡ false → w.switched.primary ≡ false
  allowed_at_source None rests e = e
  allowed_at_source (Some way) opens e =
      source_owns way.before.primary way.after.primary w.switched.primary (stands_done_at way refresh_source shard) (stands_done way write_journal) (stands_done_at way refresh_target shard)
      (λ f. ap (λ s. s.primary) (settled way opens f)) (λ t. ap (λ s. s.primary) (journaled way opens t))
      (refreshed_before way) (journaled_before way) (sym (primary-step way (not way.before.primary) shard) ∙ e)

  allowed_at_target : (o : Option Way) → w.way ≡ o → not (list_types_by_way w.switched o (step_by (before_by w.switched o).primary) shard).primary ≡ false → w.switched.primary ≡ true
  allowed_at_target None rests e = not-false w.switched.primary e
  allowed_at_target (Some way) opens e =
      target_owns way.before.primary way.after.primary w.switched.primary (stands_done_at way refresh_source shard) (stands_done way write_journal) (stands_done_at way refresh_target shard)
      (λ f. ap (λ s. s.primary) (settled way opens f)) (λ t. ap (λ s. s.primary) (journaled way opens t))
      (refreshed_before way) (journaled_before way) (ap not (sym (primary-step way way.before.primary shard)) ∙ e)

-- in each state that a run reaches, a side of which some primary doesn't refuse a moved table is the owner
module _ (p : Plain) (reached : IsReached p) (has : HasParts p) (table : List ℕ) (w : Live) (found : mover p table ≡ Some w) (shard : ℕ) where
  is_live : IsIn w p.lives
  is_live = (find_some (λ v. moves v table) p.lives w found).0

  at_side : (keyspace : List ℕ) → (same_text w.source keyspace ≡ true) ⊎ (same_text w.target keyspace ≡ true) → refuses p keyspace shard table ≡ false → keyspace ≡ owner w
  at_side keyspace (inl e) allows =
      let is = (same_text_decides w.source keyspace).0 e in
      let here = sym (refused-source p w table has found shard) ∙ ap (λ k. refuses p k shard table) is ∙ allows in
      sym is ∙ sym (owner-if w false (allowed_at_source w (has.settled w is_live) (reached_journaled p reached w is_live) shard w.way refl here))
  at_side keyspace (inr e) allows =
      let is = (same_text_decides w.target keyspace).0 e in
      let here = sym (refused-target p w table has found shard) ∙ ap (λ k. refuses p k shard table) is ∙ allows in
      sym is ∙ sym (owner-if w true (allowed_at_target w (has.settled w is_live) (reached_journaled p reached w is_live) shard w.way refl here))

  pub allowed_at_the_owner : (keyspace : List ℕ) → is_side w keyspace ≡ true → refuses p keyspace shard table ≡ false → keyspace ≡ owner w
  allowed_at_the_owner keyspace side allows = at_side keyspace (or_cases (same_text w.source keyspace) (same_text w.target keyspace) side) allows

-- ---- between the refreshes neither side serves

-- by whether primary was switched before the way, and is after it; the refresh of the new owner is still to come for the shard that is asked
window_source : (before after refreshed allowed : Bool) → differ before after ≡ true → refreshed ≡ true → (before ≡ true → allowed ≡ false) → cond (cond (not before) refreshed allowed) after before ≡ true
window_source true a r d changes refreshed allowed = ap (λ t. cond t a true) (allowed refl)
window_source false true r d changes refreshed allowed = ap (λ t. cond t true false) refreshed
window_source false false r d changes refreshed allowed = absurd (true≢false (sym changes))

window_target : (before after refreshed allowed : Bool) → differ before after ≡ true → refreshed ≡ true → (before ≡ false → allowed ≡ false) → not (cond (cond before refreshed allowed) after before) ≡ true
window_target true true r d changes refreshed allowed = absurd (true≢false (sym changes))
window_target true false r d changes refreshed allowed = ap (λ t. not (cond t false true)) refreshed
window_target false a r d changes refreshed allowed = ap (λ t. not (cond t a false)) (allowed refl)

module _ (p : Plain) (has : HasParts p) (table : List ℕ) (w : Live) (way : Way) (found : mover p table ≡ Some w) (opens : w.way ≡ Some way)
    (changes : changes_primary way ≡ true) (refreshed : stands_done way refresh_source ≡ true) (shard : ℕ) where
  pub refused_at_source : (way.before.primary ≡ true → stands_done_at way refresh_target shard ≡ false) → refuses p w.source shard table ≡ true
  refused_at_source waits =
      refused-source p w table has found shard
      ∙ ap (λ o. (list_types_by_way w.switched o (step_by (not (before_by w.switched o).primary)) shard).primary) opens ∙ primary-step way (not way.before.primary) shard
      ∙ window_source way.before.primary way.after.primary (stands_done_at way refresh_source shard) (stands_done_at way refresh_target shard) changes (done_at_all way refresh_source shard refreshed) waits

  pub refused_at_target : (way.before.primary ≡ false → stands_done_at way refresh_target shard ≡ false) → refuses p w.target shard table ≡ true
  refused_at_target waits =
      refused-target p w table has found shard
      ∙ ap (λ o. not (list_types_by_way w.switched o (step_by (before_by w.switched o).primary) shard).primary) opens ∙ ap not (primary-step way way.before.primary shard)
      ∙ window_target way.before.primary way.after.primary (stands_done_at way refresh_source shard) (stands_done_at way refresh_target shard) changes (done_at_all way refresh_source shard refreshed) waits
