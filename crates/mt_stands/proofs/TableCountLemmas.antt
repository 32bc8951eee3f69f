-- How many tables a keyspace has.
use Rattle.std.proofs.Common.{◌≡◌, ◌≢◌, ℕ, ◌+◌, Bool, true, false, cond, ◌&&◌, ◌||◌, List, [], ◌∷◌, ◌++◌, All, find, flat_map, fold, length, Option, Some, is_some, refl, sym, ap, ◌∙◌, arith, length-append}
use Rattle.std.proofs.Math.Bool.{and-false, and-true}
use Rattle.std.proofs.lemmas.Bool.{true≢false, and_parts}
use Rattle.std.proofs.lemmas.List.{length-map}
use Rattle.std.proofs.lemmas.List.Folds.{list_any-append}
use Rattle.std.proofs.lemmas.List.Sums.{sum_by-cons}
use Rattle.std.proofs.lemmas.Map.Made.{is_some-lookup, length-from_same_keys}
use Rattle.std.specs.List.{AllByRecursion, IsDistinct, count_by, list_any}
use Rattle.std.specs.Map.{keys_of, lookup}
use Rattle.std.specs.Option.{option_map_or}
use Rattle.mt_names.specs.Names.{same_text}
use Rattle.mt_names.proofs.EntryLemmas.{some_from}
use Rattle.mt_names.proofs.SameLemmas.{same_text_decides}
use Rattle.mt_model.specs.declared.entries.EntryKey.{EntryKey}
use Rattle.mt_model.specs.declared.entries.EntryKey.TheVariants as about
use Rattle.mt_model.specs.Topology.{KeyspaceState, Marks, TopologyState, has_place, is_present, keyspace_at}
use Rattle.mt_model.proofs.TopologyLemmas.{holds_at, tables_distinct}
use Rattle.mt_plain.specs.Plain.{Live, Plain, has_part, live_at, moves, part_owner}
use Rattle.mt_plain.specs.Refuse.{table_count}
use Rattle.mt_laws.specs.Places.{HasOnlyWhatStands}
use Rattle.mt_laws.specs.Reached.{IsInPlace}
use Rattle.mt_stands.specs.Topologies.{TopologyStands}
use Rattle.mt_stands.proofs.CountLemmas.{PartsApart, any_turned, by_recursion, distinct_append, equivalence}

marked_count : (marks : Marks) → AllByRecursion (λ mark. mark.1 ≡ true) marks → count_by (λ (mark : List ℕ × Bool). mark.1) marks ≡ length marks
marked_count [] all = refl
marked_count (m ∷ marks) all =
    let counted : ℕ = count_by (λ (mark : List ℕ × Bool). mark.1) marks in
    let first : count_by (λ (mark : List ℕ × Bool). mark.1) (m ∷ marks) ≡ 1 + counted = sum_by-cons (λ (mark : List ℕ × Bool). cond mark.1 1 0) m marks ∙ ap (λ t. cond t 1 0 + counted) all.0 in
    let rest : counted ≡ length marks = marked_count marks all.1 in
    omega (arith, first, rest)

module _ (k : List ℕ) where
  abbrev moved_here : Live → List (List ℕ)
  moved_here w = cond (same_text w.target k) w.tables []

  abbrev mover_in : List Live → List ℕ → Bool
  mover_in ws n = is_some (find (λ w. has_part w (about.Present k n)) ws)

  moved_in : (w : Live) (n : List ℕ) → list_any (same_text n) (moved_here w) ≡ has_part w (about.Present k n)
  moved_in w n = by (same_text w.target k)
    where
      by : (b : Bool) → list_any (same_text n) (cond b w.tables []) ≡ (moves w n && b)
      by true = any_turned same_text same_text_decides w.tables n ∙ sym (and-true (moves w n))
      by false = sym (and-false (moves w n))

  all_moved : (ws : List Live) (n : List ℕ) → list_any (same_text n) (flat_map moved_here ws) ≡ mover_in ws n
  all_moved [] n = refl
  all_moved (w ∷ ws) n =
      list_any-append (same_text n) (moved_here w) (flat_map moved_here ws) ∙ ap (λ b. b || list_any (same_text n) (flat_map moved_here ws)) (moved_in w n)
      ∙ ap (λ b. has_part w (about.Present k n) || b) (all_moved ws n) ∙ by (has_part w (about.Present k n))
    where
      by : (h : Bool) → (h || mover_in ws n) ≡ is_some (cond h (Some w) (find (λ v. has_part v (about.Present k n)) ws))
      by true = refl
      by false = refl

  no_other_mover : (w : Live) (ws : List Live) (n : List ℕ) → AllByRecursion (λ v. (key : EntryKey) → has_part w key ≡ true → has_part v key ≡ true → ⊥) ws → has_part w (about.Present k n) ≡ true → mover_in ws n ≡ true → ⊥
  no_other_mover w [] n apart has is = true≢false (sym is)
  no_other_mover w (v ∷ vs) n apart has is = by (no_other_mover w vs n apart.1 has) (has_part v (about.Present k n)) refl
    where
      by : (mover_in vs n ≡ true → ⊥) → (b : Bool) → has_part v (about.Present k n) ≡ b → ⊥
      by again true b = apart.0 (about.Present k n) has b
      by again false b = again (sym (ap (λ x. is_some (cond x (Some v) (find (λ y. has_part y (about.Present k n)) vs))) b) ∙ is)

  moved_distinct : (ws : List Live) → AllByRecursion (λ w. (w.source ≢ w.target) × IsDistinct same_text w.tables) ws → PartsApart ws → IsDistinct same_text (flat_map moved_here ws)
  unfolding IsDistinct
  moved_distinct [] each apart = tt
  moved_distinct (w ∷ ws) each apart =
      distinct_append same_text same_text_decides (moved_here w) (flat_map moved_here ws) (by (same_text w.target k)) (moved_distinct ws each.1 apart.1)
      (λ n one two. no_other_mover w ws n apart.0 (sym (moved_in w n) ∙ one) (sym (all_moved ws n) ∙ two))
    where
      by : (b : Bool) → IsDistinct same_text (cond b w.tables [])
      by true = each.0.1
      by false = tt

  tables_added : (n : ℕ) (ws : List Live) → fold (λ n w. cond (same_text w.target k) (n + length w.tables) n) n ws ≡ n + length (flat_map moved_here ws)
  tables_added n [] = omega arith
  tables_added n (w ∷ ws) =
      by (same_text w.target k) (tables_added (n + length w.tables) ws) (tables_added n ws)
    where
      by : (b : Bool) → fold (λ n w. cond (same_text w.target k) (n + length w.tables) n) (n + length w.tables) ws ≡ (n + length w.tables) + length (flat_map moved_here ws)
          → fold (λ n w. cond (same_text w.target k) (n + length w.tables) n) n ws ≡ n + length (flat_map moved_here ws)
          → fold (λ n w. cond (same_text w.target k) (n + length w.tables) n) (cond b (n + length w.tables) n) ws ≡ n + length (cond b w.tables [] ++ flat_map moved_here ws)
      by true one two = one ∙ omega (arith, length-append w.tables (flat_map moved_here ws))
      by false one two = two

  module _ (p : Plain) (t : TopologyState) (state other : KeyspaceState) (at : keyspace_at t.keyspaces k ≡ Some state) (at_p : keyspace_at p.topology.keyspaces k ≡ Some other)
      (only : HasOnlyWhatStands p.topology) (each : AllByRecursion (λ w. (w.source ≢ w.target) × IsDistinct same_text w.tables) p.lives) (apart : PartsApart p.lives)
      (tables_are : (keyspace table : List ℕ) → has_place p.topology (about.Present keyspace table) ≡ is_present p.topology.keyspaces keyspace table)
      (found : (key : EntryKey) (w : Live) → part_owner p key ≡ Some w → (has_part w key ≡ true) × (live_at p w.name ≡ Some w))
      (placed : (name : List ℕ) (w : Live) → live_at p name ≡ Some w → IsInPlace p.topology w) (stands : TopologyStands p t) where
    abbrev places_at : TopologyState → List ℕ → Bool
    places_at u n = option_map_or (λ s. is_some (lookup (same_text n) s.tables)) (keyspace_at u.keyspaces k) false

    here : (n : List ℕ) → has_place t (about.Present k n) ≡ list_any (same_text n) (keys_of state.tables)
    here n = ap (λ (o : Option KeyspaceState). option_map_or (λ s. is_some (lookup (same_text n) s.tables)) o false) at ∙ is_some-lookup (same_text n) state.tables

    there : (n : List ℕ) → has_place p.topology (about.Present k n) ≡ list_any (same_text n) (keys_of other.tables)
    there n = ap (λ (o : Option KeyspaceState). option_map_or (λ s. is_some (lookup (same_text n) s.tables)) o false) at_p ∙ is_some-lookup (same_text n) other.tables

    disjoint_tables : (n : List ℕ) → list_any (same_text n) (keys_of other.tables) ≡ true → list_any (same_text n) (flat_map moved_here p.lives) ≡ true → ⊥
    disjoint_tables n one two =
        let (w, owns) = some_from (part_owner p (about.Present k n)) (sym (all_moved p.lives n) ∙ two) in
        let (part, live) = found (about.Present k n) w owns in
        let (m, to) = and_parts (moves w n) (same_text w.target k) part in
        true≢false (sym (sym (tables_are k n) ∙ there n ∙ one) ∙ ap (λ x. is_present p.topology.keyspaces x n) (sym ((same_text_decides w.target k).0 to)) ∙ (placed w.name w live).at_target n m)

    or_turned : (a b : Bool) → (a || b) ≡ (b || a)
    or_turned true true = refl
    or_turned true false = refl
    or_turned false true = refl
    or_turned false false = refl

    pub tables_counted : length state.tables ≡ table_count p k
    tables_counted =
        sym (length-map state.tables (λ e. e.0))
        ∙ length-from_same_keys (equivalence same_text same_text_decides) (keys_of state.tables) (keys_of other.tables ++ flat_map moved_here p.lives) (tables_distinct t k state stands.served.places at)
        (distinct_append same_text same_text_decides (keys_of other.tables) (flat_map moved_here p.lives) (tables_distinct p.topology k other only.places at_p) (moved_distinct p.lives each apart) disjoint_tables)
        (λ n. sym (here n) ∙ stands.places (about.Present k n) ∙ or_turned (is_some (part_owner p (about.Present k n))) (has_place p.topology (about.Present k n))
        ∙ ap (λ b. b || is_some (part_owner p (about.Present k n))) (there n) ∙ ap (λ b. list_any (same_text n) (keys_of other.tables) || b) (sym (all_moved p.lives n))
        ∙ sym (list_any-append (same_text n) (keys_of other.tables) (flat_map moved_here p.lives)))
        ∙ length-append (keys_of other.tables) (flat_map moved_here p.lives)
        ∙ ap (λ n. n + length (flat_map moved_here p.lives)) (length-map other.tables (λ e. e.0) ∙ sym (marked_count other.tables (by_recursion (λ (mark : List ℕ × Bool). mark.1 ≡ true) other.tables (holds_at (λ s. All (λ (mark : List ℕ × Bool). mark.1 ≡ true) s.tables) p.topology.keyspaces k other only.tables at_p))))
        ∙ sym (tables_added (count_by (λ (mark : List ℕ × Bool). mark.1) other.tables) p.lives)
        ∙ sym (ap (λ (o : Option KeyspaceState). fold (λ n w. cond (same_text w.target k) (n + length w.tables) n) (option_map_or (λ s. count_by (λ (mark : List ℕ × Bool). mark.1) s.tables) o 0) p.lives) at_p)
