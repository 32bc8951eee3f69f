-- What no live workflow moves stands as if no workflow were live.
use Rattle.std.proofs.Common.{◌≡◌, ℕ, Bool, true, false, cond, ◌&&◌, ◌||◌, List, [], ◌∷◌, find, Option, None, Some, is_some, refl, sym, ap, ◌∙◌}
use Rattle.std.proofs.lemmas.Bool.{and_parts, true≢false}
use Rattle.std.specs.List.{list_any}
use Rattle.std.specs.Option.{option_map_or}
use Rattle.mt_names.specs.declared.keys.RuleKey.{RuleKey}
use Rattle.mt_names.specs.Names.{same_text}
use Rattle.mt_model.specs.declared.entries.EntryKey.{EntryKey}
use Rattle.mt_model.specs.declared.entries.EntryKey.TheVariants as about
use Rattle.mt_model.specs.Topology.{TopologyState, has_place, is_present, rule_at, value_of}
use Rattle.mt_plain.specs.Plain.{Live, Plain, has_part, is_side, mover, moves, part_owner}
use Rattle.mt_plain.specs.Serve.{has_table, mark_in, rule_in, served_by}
use Rattle.mt_stands.specs.Topologies.{TopologyStands}

-- the table that an entry is about
abbrev pub table_in : EntryKey → List ℕ
table_in (about.Rule key) = key.table
table_in (about.Denied keyspace table) = table
table_in (about.Present keyspace table) = table

pub in_moved : (w : Live) (key : EntryKey) → has_part w key ≡ true → moves w (table_in key) ≡ true
in_moved w (about.Rule key) part = (and_parts (moves w key.table) (option_map_or (is_side w) key.keyspace true) part).0
in_moved w (about.Denied keyspace table) part = (and_parts (moves w table) (is_side w keyspace) part).0
in_moved w (about.Present keyspace table) part = (and_parts (moves w table) (same_text w.target keyspace) part).0

-- ---- what a list has none of

find_none : {X : Type 0} (f g : X → Bool) (xs : List X) → ((x : X) → g x ≡ true → f x ≡ true) → find f xs ≡ None → find g xs ≡ None
find_none f g [] each none = refl
find_none f g (x ∷ xs) each none = by (find_none f g xs each) (f x) refl (g x) refl
  where
    by : (find f xs ≡ None → find g xs ≡ None) → (a : Bool) → f x ≡ a → (b : Bool) → g x ≡ b → find g (x ∷ xs) ≡ None
    by again true a b at = absurd (let h = rw a at none in cc)
    by again false a true b = absurd (true≢false (sym (each x b) ∙ a))
    by again false a false b = rw b (again (rw a at none))

pub any_find : {X : Type 0} (f : X → Bool) (xs : List X) → list_any f xs ≡ is_some (find f xs)
any_find f [] = refl
any_find f (x ∷ xs) = by (f x) (any_find f xs)
  where
    by : (b : Bool) → list_any f xs ≡ is_some (find f xs) → (b || list_any f xs) ≡ is_some (cond b (Some x) (find f xs))
    by true again = refl
    by false again = again

-- ---- outside of all parts

pub unowned : (p : Plain) (key : EntryKey) → mover p (table_in key) ≡ None → part_owner p key ≡ None
unowned p key none = find_none (λ w. moves w (table_in key)) (λ w. has_part w key) p.lives (λ w part. in_moved w key part) none

module _ (p : Plain) (t : TopologyState) (stands : TopologyStands p t) where
  pub free_value : (key : EntryKey) → mover p (table_in key) ≡ None → value_of t key ≡ value_of p.topology key
  free_value key none =
      stands.served.entries key ∙ ap (λ (o : Option Live). option_map_or (λ w. served_by p.topology w key) o (value_of p.topology key)) (unowned p key none)

  pub free_rule : (key : RuleKey) → mover p key.table ≡ None → rule_at t.rules key ≡ rule_at p.topology.rules key
  free_rule key none = ap rule_in (free_value (about.Rule key) none)

  pub free_place : (key : EntryKey) → mover p (table_in key) ≡ None → has_place t key ≡ has_place p.topology key
  free_place key none = stands.places key ∙ ap (λ (o : Option Live). is_some o || has_place p.topology key) (unowned p key none)

  -- and each table is there where the definitions have it
  pub present_there : (keyspace table : List ℕ) → is_present t.keyspaces keyspace table ≡ has_table p keyspace table
  present_there keyspace table =
      ap mark_in (stands.served.entries (about.Present keyspace table)) ∙ by (part_owner p (about.Present keyspace table))
      ∙ sym (ap (λ b. cond b true (is_present p.topology.keyspaces keyspace table)) (any_find (λ w. moves w table && same_text w.target keyspace) p.lives))
    where
      by : (o : Option Live) → mark_in (option_map_or (λ w. served_by p.topology w (about.Present keyspace table)) o (value_of p.topology (about.Present keyspace table))) ≡ cond (is_some o) true (is_present p.topology.keyspaces keyspace table)
      by None = refl
      by (Some w) = refl
