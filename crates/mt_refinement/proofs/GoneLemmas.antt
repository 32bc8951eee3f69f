-- A live workflow that is gone: what is found, had and refused without it.
use Rattle.std.proofs.Common.{◌≡◌, ◌≢◌, inl, inr, ℕ, Bool, true, false, not, cond, List, [], ◌∷◌, filter, find, map, Option, None, Some, is_some, refl, sym, ap, ◌∙◌}
use Rattle.std.proofs.lemmas.Bool.{true≢false}
use Rattle.std.specs.List.{AllByRecursion, IsDistinct, list_any}
use Rattle.std.specs.Map.{keys_of, remove_entry}
use Rattle.std.specs.Option.{option_map_or}
use Rattle.std.specs.Prelude.{◌&&◌, ◌||◌}
use Rattle.mt_names.specs.Names.{same_text}
use Rattle.mt_names.specs.declared.types.TypeSet.{TypeSet}
use Rattle.mt_names.proofs.EntryLemmas.{same_turned}
use Rattle.mt_names.proofs.SameLemmas.{same_text_decides}
use Rattle.mt_model.specs.Topology.{is_present}
use Rattle.mt_laws.specs.Reached.{IsInPlace}
use Rattle.mt_laws.proofs.LiveLemmas.{Apart, IsApart, IsIn, any-nowhere, find-filter_gone, find-filter_kept, in-filter, text_differs, unique}
use Rattle.mt_plain.specs.Events.{Way, traffic_switched, under_way}
use Rattle.mt_plain.specs.Next.{without_live}
use Rattle.mt_plain.specs.Plain.{Live, Plain, mover, moves, stands_done_at}
use Rattle.mt_plain.specs.Refuse.{cancel_refusal, or_else, refuse_if}
use Rattle.mt_plain.specs.Serve.{has_table, is_listed_at, list_types, refuses, refuses_by, step_of_list}
use Rattle.mt_stands.specs.Base.{Workflows}

-- ---- names

abbrev names_of : List Live → List (List ℕ)
names_of lives = map (λ (l : Live). l.name) lives

absent_names : (l : Live) (ls : List Live) → AllByRecursion (IsApart l) ls → AllByRecursion (λ j. same_text l.name j ≡ false) (names_of ls)
absent_names l [] all = tt
absent_names l (x ∷ ls) all = (text_differs l.name x.name all.0.names, absent_names l ls all.1)

pub distinct_names : (ls : List Live) → Apart ls → IsDistinct same_text (names_of ls)
unfolding IsDistinct
distinct_names [] apart = tt
distinct_names (l ∷ ls) apart = (absent_names l ls apart.0, distinct_names ls apart.1)

none_gone : (n : List ℕ) (l : Live) (ls : List Live) → n ≡ l.name → AllByRecursion (IsApart l) ls → without_live n ls ≡ ls
none_gone n l [] at all = refl
none_gone n l (x ∷ ls) at all =
    ap (λ t. cond (not t) (x ∷ without_live n ls) (without_live n ls)) (text_differs x.name n (λ e. all.0.names (sym at ∙ sym e)))
    ∙ ap (λ xs. x ∷ xs) (none_gone n l ls at all.1)

-- the first of a name among entries, and the one of that name among those that are apart
pub names_gone : (n : List ℕ) (ws : Workflows) (ls : List Live) → Apart ls → keys_of ws ≡ names_of ls → keys_of (remove_entry (same_text n) ws) ≡ names_of (without_live n ls)
names_gone n [] [] apart same = refl
names_gone n [] (l ∷ ls) apart same = absurd cc
names_gone n (e ∷ ws) [] apart same = absurd cc
names_gone n (e ∷ ws) (l ∷ ls) apart same = by (same_text n e.0) refl (names_gone n ws ls apart.1 rest)
  where
    first : e.0 ≡ l.name
    first = cc

    rest : keys_of ws ≡ names_of ls
    rest = cc

    turned : same_text l.name n ≡ same_text n e.0
    turned = same_turned same_text same_text_decides l.name n ∙ ap (same_text n) (sym first)

    by : (t : Bool) → same_text n e.0 ≡ t → keys_of (remove_entry (same_text n) ws) ≡ names_of (without_live n ls)
        → keys_of (remove_entry (same_text n) (e ∷ ws)) ≡ names_of (without_live n (l ∷ ls))
    by true t again =
        ap (λ b. keys_of (cond b ws (e ∷ remove_entry (same_text n) ws))) t ∙ rest
        ∙ ap names_of (sym (none_gone n l ls ((same_text_decides n e.0).0 t ∙ first) apart.0))
        ∙ ap (λ b. names_of (cond (not b) (l ∷ without_live n ls) (without_live n ls))) (sym (turned ∙ t))
    by false t again =
        ap (λ b. keys_of (cond b ws (e ∷ remove_entry (same_text n) ws))) t ∙ ap (λ k. k ∷ keys_of (remove_entry (same_text n) ws)) first ∙ ap (λ ks. l.name ∷ ks) again
        ∙ ap (λ b. names_of (cond (not b) (l ∷ without_live n ls) (without_live n ls))) (sym (turned ∙ t))

pub live_gone : (n : List ℕ) (ls : List Live) → find (λ (l : Live). same_text l.name n) (without_live n ls) ≡ None
live_gone n ls = find-filter_gone (λ (l : Live). same_text l.name n) (λ (l : Live). not (same_text l.name n)) ls (λ l is e. ap not e)

-- ---- tables

any-filter_kept : {X : Type 0} (test keep : X → Bool) (xs : List X) → ((x : X) → IsIn x xs → test x ≡ true → keep x ≡ true) → list_any test (filter keep xs) ≡ list_any test xs
any-filter_kept test keep [] all = refl
any-filter_kept {X} test keep (x ∷ xs) all = by (keep x) refl (test x) refl (any-filter_kept test keep xs (λ y is. all y (inr is)))
  where
    by : (k : Bool) → keep x ≡ k → (t : Bool) → test x ≡ t → list_any test (filter keep xs) ≡ list_any test xs
        → list_any test (cond (keep x) (x ∷ filter keep xs) (filter keep xs)) ≡ (test x || list_any test xs)
    by true k t e again = ap (λ b. list_any test (cond b (x ∷ filter keep xs) (filter keep xs))) k ∙ ap (λ b. test x || b) again
    by false k true e again = absurd (true≢false (sym (all x (inl refl) e) ∙ k))
    by false k false e again = ap (λ b. list_any test (cond b (x ∷ filter keep xs) (filter keep xs))) k ∙ again ∙ ap (λ b. b || list_any test xs) (sym e)

module _ (p : Plain) (apart : Apart p.lives) (workflow : List ℕ) (live : Live) (is_in : IsIn live p.lives) (named : live.name ≡ workflow) where
  abbrev pub q : Plain
  q = record p { lives = without_live workflow p.lives }

  abbrev keep : Live → Bool
  keep w = not (same_text w.name workflow)

  -- one of its name is the workflow
  is_it : (w : Live) → IsIn w p.lives → same_text w.name workflow ≡ true → w ≡ live
  is_it w is e = unique p.lives w live apart is is_in (λ one. one.names ((same_text_decides w.name workflow).0 e ∙ sym named))

  -- and so is one that moves a table of its
  moves_it : (w : Live) → IsIn w p.lives → (table : List ℕ) → moves w table ≡ true → moves live table ≡ true → w ≡ live
  moves_it w is table a b = unique p.lives w live apart is is_in (λ one. one.tables table a b)

  not_kept : (w : Live) → w ≡ live → keep w ≡ false
  not_kept w e = ap not (ap (λ (x : Live). same_text x.name workflow) e ∙ (same_text_decides live.name workflow).1 named)

  -- one that isn't the workflow is kept
  kept_other : (test : Live → Bool) → test live ≡ false → (w : Live) → IsIn w p.lives → test w ≡ true → keep w ≡ true
  kept_other test fails w is e = by (same_text w.name workflow) refl
    where
      by : (t : Bool) → same_text w.name workflow ≡ t → not (same_text w.name workflow) ≡ true
      by true t = absurd (true≢false (sym e ∙ ap test (is_it w is t) ∙ fails))
      by false t = ap not t

  pub mover_gone : (table : List ℕ) → moves live table ≡ true → mover q table ≡ None
  mover_gone table moved = find-filter_gone (λ w. moves w table) keep p.lives (λ w is e. not_kept w (moves_it w is table e moved))

  pub mover_stays : (table : List ℕ) → moves live table ≡ false → mover q table ≡ mover p table
  mover_stays table other = find-filter_kept (λ w. moves w table) keep p.lives (kept_other (λ w. moves w table) other)

  -- a table that it moved is at the target no more
  pub table_gone : IsInPlace p.topology live → (table : List ℕ) → moves live table ≡ true → has_table q live.target table ≡ false
  table_gone placed table moved =
      ap (λ b. cond b true (is_present p.topology.keyspaces live.target table)) (any-nowhere (λ w. moves w table && same_text w.target live.target) (without_live workflow p.lives) none)
      ∙ placed.at_target table moved
    where
      none : (w : Live) → IsIn w (without_live workflow p.lives) → (moves w table && same_text w.target live.target) ≡ false
      none w is = by (moves w table) refl
        where
          by : (b : Bool) → moves w table ≡ b → (moves w table && same_text w.target live.target) ≡ false
          by true e = let r = in-filter keep p.lives w is in absurd (true≢false (sym r.1 ∙ not_kept w (moves_it w r.0 table e moved)))
          by false e = ap (λ b. b && same_text w.target live.target) e

  -- and all other tables stay
  pub table_stays : (keyspace table : List ℕ) → (moves live table && same_text live.target keyspace) ≡ false → has_table q keyspace table ≡ has_table p keyspace table
  table_stays keyspace table other =
      ap (λ b. cond b true (is_present p.topology.keyspaces keyspace table))
      (any-filter_kept (λ w. moves w table && same_text w.target keyspace) keep p.lives (kept_other (λ w. moves w table && same_text w.target keyspace) other))

  -- ---- own lists

  pub allowed_gone : (keyspace : List ℕ) (shard : ℕ) (table : List ℕ) → moves live table ≡ true → refuses q keyspace shard table ≡ false
  allowed_gone keyspace shard table moved = ap (λ o. option_map_or (λ w. refuses_by w keyspace shard) o false) (mover_gone table moved)

  pub refused_stays : (keyspace : List ℕ) (shard : ℕ) (table : List ℕ) → moves live table ≡ false → refuses q keyspace shard table ≡ refuses p keyspace shard table
  refused_stays keyspace shard table other = ap (λ o. option_map_or (λ w. refuses_by w keyspace shard) o false) (mover_stays table other)

-- ---- at rest with nothing switched

pub at_source : (w : Live) → cancel_refusal w ≡ None → (w.way ≡ None) × (w.switched.primary ≡ false)
at_source w none = by w.way refl w.switched.primary refl none
  where
    by : (o : Option Way) → w.way ≡ o → (b : Bool) → w.switched.primary ≡ b
        → or_else (refuse_if (is_some o) under_way) (refuse_if (b || w.switched.replica || w.switched.rdonly) traffic_switched) ≡ None → (w.way ≡ None) × (w.switched.primary ≡ false)
    by (Some way) e b f none = absurd cc
    by None e true f none = absurd cc
    by None e false f none = (e, f)

-- no keyspace but the target refuses a table of the workflow
pub allowed_before : (w : Live) → cancel_refusal w ≡ None → (keyspace : List ℕ) (shard : ℕ) → w.target ≢ keyspace → refuses_by w keyspace shard ≡ false
allowed_before w none keyspace shard other =
    ap (λ (t : TypeSet). is_listed_at w t keyspace) (types_at_rest)
    ∙ ap (λ b. (same_text w.source keyspace || b) && cond (same_text w.source keyspace) w.switched.primary (not w.switched.primary)) (text_differs w.target keyspace other)
    ∙ ap (λ b. (same_text w.source keyspace || false) && cond (same_text w.source keyspace) b (not b)) (at_source w none).1
    ∙ by (same_text w.source keyspace)
  where
    types_at_rest : list_types w keyspace shard ≡ w.switched
    types_at_rest = ap (λ o. option_map_or (λ (way : Way). cond (stands_done_at way (step_of_list w keyspace) shard) way.after way.before) o w.switched) (at_source w none).0

    by : (s : Bool) → ((s || false) && cond s false true) ≡ false
    by true = refl
    by false = refl
