-- Parts apart, and where a moved table is writable.
use Rattle.std.proofs.Common.{◌≡◌, ◌≢◌, ◌⊎◌, ◌↔◌, inl, inr, ℕ, Bool, true, false, not, cond, List, [], ◌∷◌, Option, None, Some, refl, sym, ap, ◌∙◌, subst, arith}
use Rattle.std.proofs.lemmas.Bool.{true≢false, not-false, or_cases, or_left, or_right}
use Rattle.std.proofs.lemmas.List.Elements.{All-from_recursion}
use Rattle.std.proofs.lemmas.List.Kept.{AllPairs-cons}
use Rattle.std.specs.Option.{option_map_or}
use Rattle.std.specs.Prelude.{◌&&◌, AllPairs}
use Rattle.mt_names.specs.declared.types.TypeSet.{TypeSet}
use Rattle.mt_names.specs.Names.{same_text}
use Rattle.mt_names.proofs.SameLemmas.{same_text_decides}
use Rattle.mt_model.specs.declared.entries.Entry.TheVariants as entry
use Rattle.mt_model.specs.declared.entries.EntryKey.{EntryKey}
use Rattle.mt_model.specs.declared.entries.EntryKey.TheVariants as about
use Rattle.mt_model.specs.Topology.{value_of}
use Rattle.mt_model.proofs.PartLemmas.{table_of}
use Rattle.mt_plain.specs.Events.{Way}
use Rattle.mt_plain.specs.Plain.{Live, Plain, before_way, has_part, is_side, mover, moves, owner, part_owner, refresh_source, refresh_target, stands_done_at}
use Rattle.mt_plain.specs.Serve.{IsWritable, is_denied_at, list_types, owned_before, refuses, served_by, served_entry, has_table}
use Rattle.mt_laws.specs.WayBack.{IsReached}
use Rattle.mt_laws.proofs.LiveLemmas.{Apart, IsApart, IsIn, all_from_in, find_none, find_some, in_all, text_differs}
use Rattle.mt_laws.proofs.PartLemmas.{HasParts, moved_from_part, there_at_source, there_at_target}
use Rattle.mt_laws.proofs.ReachLemmas.{reached_has_parts}
use Rattle.mt_laws.proofs.PlainWords.{refuses_moved, list_types_by_way, side_by}
use Rattle.mt_laws.proofs.ListLemmas.{cond-ap}
use Rattle.mt_laws.proofs.WayStepLemmas.{done_at_all, done_at_some}

-- ---- parts

pairs_apart : (R : Live → Live → Type 0) → ((v w : Live) → IsApart v w → R v w) → (xs : List Live) → Apart xs → AllPairs R xs
pairs_apart R each [] apart = λ i j d lt below. absurd (omega arith)
pairs_apart R each (x ∷ xs) apart =
    AllPairs-cons R x xs (All-from_recursion (R x) xs (all_from_in (R x) xs (λ w is. each x w (in_all (IsApart x) xs w apart.0 is)))) (pairs_apart R each xs apart.1)

pub no_key_in_two : (p : Plain) → IsReached p → AllPairs (λ v w. (key : EntryKey) → has_part v key ≡ true → has_part w key ≡ true → ⊥) p.lives
no_key_in_two p reached =
    pairs_apart (λ v w. (key : EntryKey) → has_part v key ≡ true → has_part w key ≡ true → ⊥)
    (λ v w apart key a b. apart.tables (table_of key) (moved_from_part v key a) (moved_from_part w key b)) p.lives (reached_has_parts p reached).apart

pub no_table_in_two : (p : Plain) → IsReached p → AllPairs (λ v w. (table : List ℕ) → moves v table ≡ true → moves w table ≡ true → ⊥) p.lives
no_table_in_two p reached =
    pairs_apart (λ v w. (table : List ℕ) → moves v table ≡ true → moves w table ≡ true → ⊥) (λ v w apart. apart.tables) p.lives (reached_has_parts p reached).apart

pub no_name_of_two : (p : Plain) → IsReached p → AllPairs (λ v w. v.name ≢ w.name) p.lives
no_name_of_two p reached = pairs_apart (λ v w. v.name ≢ w.name) (λ v w apart. apart.names) p.lives (reached_has_parts p reached).apart

pub no_denial_elsewhere : (p : Plain) → IsReached p → (keyspace table : List ℕ) → part_owner p (about.Denied keyspace table) ≡ None → served_entry p (about.Denied keyspace table) ≡ entry.Denied keyspace table false
no_denial_elsewhere p reached keyspace table none =
    ap (λ o. option_map_or (λ w. served_by p.topology w (about.Denied keyspace table)) o (value_of p.topology (about.Denied keyspace table))) none
    ∙ ap (entry.Denied keyspace table) ((reached_has_parts p reached).undenied keyspace table)

refuses_elsewhere : (p : Plain) (keyspace : List ℕ) (shard : ℕ) (table : List ℕ) → part_owner p (about.Denied keyspace table) ≡ None → (o : Option Live) → mover p table ≡ o → refuses_moved o keyspace shard ≡ false
refuses_elsewhere p keyspace shard table none None found = refl
refuses_elsewhere p keyspace shard table none (Some w) found =
    let r = find_some (λ v. moves v table) p.lives w found in
    ap (λ t. t && is_denied_at w (list_types w keyspace shard) keyspace)
    (sym (ap (λ t. t && is_side w keyspace) r.1) ∙ find_none (λ v. has_part v (about.Denied keyspace table)) p.lives none w r.0)

pub no_refusal_elsewhere : (p : Plain) (keyspace : List ℕ) (shard : ℕ) (table : List ℕ) → part_owner p (about.Denied keyspace table) ≡ None → refuses p keyspace shard table ≡ false
no_refusal_elsewhere p keyspace shard table none = refuses_elsewhere p keyspace shard table none (mover p table) refl

-- ---- which side refuses

-- by whether primary was switched before the way and is after it, and whether the two refreshes stand done, at a shard of the source and at
-- one of the target
not_both : (before source_here source_there target_here target_there after : Bool) → (target_there ≡ true → source_here ≡ true) → (target_here ≡ true → source_there ≡ true)
    → cond (cond (not before) source_here target_here) after before ≡ false → not (cond (cond before source_there target_there) after before) ≡ false → ⊥
not_both true sh st true tt true one two e f = true≢false e
not_both true sh true true tt false one two e f = true≢false f
not_both true sh false true tt false one two e f = true≢false (sym (two refl))
not_both true sh st false tt after one two e f = true≢false e
not_both false true st th tt true one two e f = true≢false e
not_both false true st th true false one two e f = true≢false f
not_both false true st th false false one two e f = true≢false f
not_both false false st th true after one two e f = true≢false (sym (one refl))
not_both false false st th false after one two e f = true≢false f

-- the step at which a side's primary takes its denials over, by whether it was the owner
abbrev pub step_by : Bool → ℕ
step_by owned = cond owned refresh_source refresh_target

pub primary-step : (way : Way) (owned : Bool) (shard : ℕ) → (cond (stands_done_at way (step_by owned) shard) way.after way.before).primary ≡ cond (cond owned (stands_done_at way refresh_source shard) (stands_done_at way refresh_target shard)) way.after.primary way.before.primary
primary-step way true shard = cond-ap (λ s. s.primary) (stands_done_at way refresh_source shard) way.after way.before
primary-step way false shard = cond-ap (λ s. s.primary) (stands_done_at way refresh_target shard) way.after way.before

abbrev pub before_by : TypeSet → Option Way → TypeSet
before_by switched o = option_map_or (λ way. way.before) o switched

pub owner-if : (w : Live) (t : Bool) → w.switched.primary ≡ t → owner w ≡ side_by w t
owner-if w t e = ap (side_by w) e

pub side_by-is_side : (w : Live) (t : Bool) → is_side w (side_by w t) ≡ true
side_by-is_side w true = or_right (same_text w.source w.target) (same_text w.target w.target) ((same_text_decides w.target w.target).1 refl)
side_by-is_side w false = or_left (same_text w.source w.source) (same_text w.target w.source) ((same_text_decides w.source w.source).1 refl)

not_both_sides : (switched : TypeSet) (o : Option Way) (here there : ℕ) → (list_types_by_way switched o (step_by (not (before_by switched o).primary)) here).primary ≡ false
    → not (list_types_by_way switched o (step_by (before_by switched o).primary) there).primary ≡ false → ⊥
not_both_sides switched None here there e f = true≢false (sym (not-false switched.primary f) ∙ e)
not_both_sides switched (Some way) here there e f =
    not_both way.before.primary (stands_done_at way refresh_source here) (stands_done_at way refresh_source there) (stands_done_at way refresh_target here) (stands_done_at way refresh_target there) way.after.primary (order there here) (order here there)
    (sym (primary-step way (not way.before.primary) here) ∙ e) (ap not (sym (primary-step way way.before.primary there)) ∙ f)
  where
    -- where a primary of the new owner has taken over, all those of the old one have
    order : (a b : ℕ) → stands_done_at way refresh_target a ≡ true → stands_done_at way refresh_source b ≡ true
    order a b t = done_at_all way refresh_source b (done_at_some way refresh_target a 1 t (omega arith))

module _ (p : Plain) (w : Live) (table : List ℕ) (has : HasParts p) (found : mover p table ≡ Some w) where
  is_live : IsIn w p.lives
  is_live = (find_some (λ v. moves v table) p.lives w found).0

  moved : moves w table ≡ true
  moved = (find_some (λ v. moves v table) p.lives w found).1

  differs : same_text w.source w.target ≡ false
  differs = text_differs w.source w.target (has.placed w is_live).sides

  turned : same_text w.target w.source ≡ false
  turned = text_differs w.target w.source (λ e. (has.placed w is_live).sides (sym e))

  itself : (name : List ℕ) → same_text name name ≡ true
  itself name = (same_text_decides name name).1 refl

  owned-source : owned_before w w.source ≡ not (before_way w).primary
  owned-source = by (before_way w).primary
    where
      by : (t : Bool) → same_text (cond t w.target w.source) w.source ≡ not t
      by true = turned
      by false = itself w.source

  owned-target : owned_before w w.target ≡ (before_way w).primary
  owned-target = by (before_way w).primary
    where
      by : (t : Bool) → same_text (cond t w.target w.source) w.target ≡ t
      by true = itself w.target
      by false = differs

  abbrev refused_by : List ℕ → TypeSet → Bool
  refused_by keyspace types = is_side w keyspace && is_denied_at w types keyspace

  at-source : (types : TypeSet) → refused_by w.source types ≡ types.primary
  at-source types = rw (itself w.source) refl

  at-target : (types : TypeSet) → refused_by w.target types ≡ not types.primary
  at-target types = rw (differs, itself w.target) refl

  pub refused-source : (shard : ℕ) → refuses p w.source shard table ≡ (list_types_by_way w.switched w.way (step_by (not (before_way w).primary)) shard).primary
  refused-source shard =
      ap (λ o. refuses_moved o w.source shard) found ∙ at-source (list_types w w.source shard)
      ∙ ap (λ t. (list_types_by_way w.switched w.way (step_by t) shard).primary) owned-source

  pub refused-target : (shard : ℕ) → refuses p w.target shard table ≡ not (list_types_by_way w.switched w.way (step_by (before_way w).primary) shard).primary
  refused-target shard =
      ap (λ o. refuses_moved o w.target shard) found ∙ at-target (list_types w w.target shard)
      ∙ ap (λ t. not (list_types_by_way w.switched w.way (step_by t) shard).primary) owned-target

  pub not_writable_in_two : IsWritable p w.source table → IsWritable p w.target table → ⊥
  not_writable_in_two at_source at_target =
      not_both_sides w.switched w.way at_source.1.0 at_target.1.0 (sym (refused-source at_source.1.0) ∙ at_source.1.2) (sym (refused-target at_target.1.0) ∙ at_target.1.2)

  -- ---- at rest

  module _ (rests : w.way ≡ None) where
    rest-source : (shard : ℕ) → refuses p w.source shard table ≡ w.switched.primary
    rest-source shard = refused-source shard ∙ ap (λ o. (list_types_by_way w.switched o (step_by (not (before_by w.switched o).primary)) shard).primary) rests

    rest-target : (shard : ℕ) → refuses p w.target shard table ≡ not w.switched.primary
    rest-target shard = refused-target shard ∙ ap (λ o. not (list_types_by_way w.switched o (step_by (before_by w.switched o).primary) shard).primary) rests

    open-owner : (t : Bool) → w.switched.primary ≡ t → (shard : ℕ) → refuses p (cond t w.target w.source) shard table ≡ false
    open-owner true e shard = rest-target shard ∙ ap not e
    open-owner false e shard = rest-source shard ∙ e

    there-owner : (t : Bool) → has_table p (cond t w.target w.source) table ≡ true
    there-owner true = there_at_target p w table is_live moved
    there-owner false = there_at_source p w table has is_live moved

    pub open_at_rest : (shard : ℕ) → refuses p (owner w) shard table ≡ false
    open_at_rest shard = ap (λ k. refuses p k shard table) (owner-if w w.switched.primary refl) ∙ open-owner w.switched.primary refl shard

    writable-owner : (t : Bool) → w.switched.primary ≡ t → IsWritable p (cond t w.target w.source) table
    writable-owner t e = (there-owner t, (0, omega arith, open-owner t e 0))

    owner-writable : (keyspace : List ℕ) → (same_text w.source keyspace ≡ true) ⊎ (same_text w.target keyspace ≡ true) → IsWritable p keyspace table → keyspace ≡ owner w
    owner-writable keyspace (inl e) writable =
        let is = (same_text_decides w.source keyspace).0 e in
        sym is ∙ sym (owner-if w false (sym (rest-source writable.1.0) ∙ ap (λ k. refuses p k writable.1.0 table) is ∙ writable.1.2))
    owner-writable keyspace (inr e) writable =
        let is = (same_text_decides w.target keyspace).0 e in
        sym is ∙ sym (owner-if w true (not-false w.switched.primary (sym (rest-target writable.1.0) ∙ ap (λ k. refuses p k writable.1.0 table) is ∙ writable.1.2)))

    pub writable_at_rest : (keyspace : List ℕ) → is_side w keyspace ≡ true → IsWritable p keyspace table ↔ (keyspace ≡ owner w)
    writable_at_rest keyspace side = (
      owner-writable keyspace (or_cases (same_text w.source keyspace) (same_text w.target keyspace) side),
      λ e. subst (λ k. IsWritable p k table) (sym (owner-if w w.switched.primary refl) ∙ sym e) (writable-owner w.switched.primary refl),
    )

pub never_writable_in_two : (p : Plain) → IsReached p → (table : List ℕ) (w : Live) → mover p table ≡ Some w → IsWritable p w.source table → IsWritable p w.target table → ⊥
never_writable_in_two p reached table w found = not_writable_in_two p w table (reached_has_parts p reached) found

pub open_at_the_owner : (p : Plain) → IsReached p → (table : List ℕ) (w : Live) → mover p table ≡ Some w → w.way ≡ None → (shard : ℕ) → refuses p (owner w) shard table ≡ false
open_at_the_owner p reached table w found rests = open_at_rest p w table (reached_has_parts p reached) found rests

pub writable_at_the_owner : (p : Plain) → IsReached p → (table : List ℕ) (w : Live) → mover p table ≡ Some w → w.way ≡ None → (keyspace : List ℕ) → is_side w keyspace ≡ true → IsWritable p keyspace table ↔ (keyspace ≡ owner w)
writable_at_the_owner p reached table w found rests = writable_at_rest p w table (reached_has_parts p reached) found rests
