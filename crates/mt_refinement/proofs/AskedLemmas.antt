-- The change that Create makes, and what it tells of the denials at the target.
use Rattle.std.proofs.Common.{◌≡◌, ◌≢◌, ℕ, Bool, true, false, cond, ◌&&◌, ◌||◌, List, [], ◌∷◌, ◌++◌, flat_map, fold, map, Option, None, Some, refl, ap, ◌∙◌}
use Rattle.std.proofs.lemmas.Bool.{or_right}
use Rattle.std.proofs.lemmas.List.Sums.{fold-append}
use Rattle.std.specs.List.{AllByRecursion}
use Rattle.mt_names.specs.Names.{same_text}
use Rattle.mt_names.specs.Types.{no_types}
use Rattle.mt_names.proofs.EntryLemmas.{apart}
use Rattle.mt_names.proofs.SameLemmas.{same_text_decides}
use Rattle.mt_model.specs.declared.entries.Entry.{Entry}
use Rattle.mt_model.specs.declared.entries.EntryKey.{EntryKey}
use Rattle.mt_model.specs.declared.entries.EntryKey.TheVariants as about
use Rattle.mt_model.specs.Topology.{TopologyState, value_of}
use Rattle.mt_primary.specs.Denials.{told_by_entry, told_by_notice}
use Rattle.mt_plain.specs.Asks.{create_change, keys_created}
use Rattle.mt_plain.specs.Plain.{Live, among, has_part, is_side, moves, twelve_keys}
use Rattle.mt_plain.specs.Serve.{is_denied_at, serve}
use Rattle.mt_stands.proofs.BeginLemmas.{serve_turned}
use Rattle.mt_stands.proofs.PartLemmas.{serve_same}
use Rattle.mt_refinement.proofs.ListLemmas.{each_named, each_side_key, flat_map_same}
use Rattle.mt_laws.proofs.PendingLemmas.{map_same}

itself : (name : List ℕ) → same_text name name ≡ true
itself name = (same_text_decides name name).1 refl

-- ---- the same change from what is kept

all_mapped : {X Y : Type 0} (P : Y → Type 0) (f : X → Y) (xs : List X) (ys : List Y) → AllByRecursion (λ x. P (f x)) xs → AllByRecursion P ys → AllByRecursion P (map f xs ++ ys)
all_mapped P f [] ys one two = two
all_mapped P f (x ∷ xs) ys one two = (one.0, all_mapped P f xs ys one.1 two)

-- each key that Create changes of a moved table lies in the part
created_in_part : (w : Live) (table : List ℕ) → moves w table ≡ true → AllByRecursion (λ key. has_part w key ≡ true) (keys_created w table)
created_in_part w table m =
    all_mapped (λ key. has_part w key ≡ true) about.Rule (twelve_keys w.source w.target table) (about.Denied w.target table ∷ about.Present w.target table ∷ [])
    (each_side_key (λ key. has_part w (about.Rule key) ≡ true) w.source w.target table (λ tablet_type. moved true refl)
    (λ tablet_type. moved (is_side w w.source) (ap (λ b. b || same_text w.target w.source) (itself w.source)))
    (λ tablet_type. moved (is_side w w.target) at_target))
    (moved (is_side w w.target) at_target, (moved (same_text w.target w.target) (itself w.target), tt))
  where
    moved : (b : Bool) → b ≡ true → (moves w table && b) ≡ true
    moved b is = ap (λ x. x && b) m ∙ is

    at_target : is_side w w.target ≡ true
    at_target = or_right (same_text w.source w.target) (same_text w.target w.target) (itself w.target)

-- two workflows of the same sides and tables change the same where the part says the same
pub same_change : (u v : TopologyState) (w x : Live) → w.source ≡ x.source → w.target ≡ x.target → w.tables ≡ x.tables
    → ((key : EntryKey) → has_part w key ≡ true → value_of u key ≡ value_of v key) → create_change u w ≡ create_change v x
same_change u v w x source target tables same =
    flat_map_same (λ table. map (serve u w no_types) (keys_created w table)) (λ table. map (serve v x no_types) (keys_created x table)) w.tables
    (each_named (λ table. map (serve u w no_types) (keys_created w table) ≡ map (serve v x no_types) (keys_created x table)) w.tables
    (λ table m.
    map_same (serve u w no_types) (serve v x no_types) (keys_created w table) (alike (keys_created w table) (created_in_part w table m))
    ∙ ap (map (serve v x no_types)) (keys_turned table)))
    ∙ ap (flat_map (λ table. map (serve v x no_types) (keys_created x table))) tables
  where
    keys_turned : (table : List ℕ) → keys_created w table ≡ keys_created x table
    keys_turned table =
        ap (λ s. map about.Rule (twelve_keys s w.target table) ++ about.Denied w.target table ∷ about.Present w.target table ∷ []) source
        ∙ ap (λ t. map about.Rule (twelve_keys x.source t table) ++ about.Denied t table ∷ about.Present t table ∷ []) target

    alike : (keys : List EntryKey) → AllByRecursion (λ key. has_part w key ≡ true) keys → AllByRecursion (λ key. serve u w no_types key ≡ serve v x no_types key) keys
    alike [] each = tt
    alike (key ∷ keys) each = (serve_same v u w no_types key (same key each.0) ∙ serve_turned v w x no_types key source target, alike keys each.1)

-- ---- what it tells

module _ (u : TopologyState) (w : Live) (sides : w.source ≢ w.target) (name : List ℕ) where
  denied_there : is_denied_at w no_types w.target ≡ true
  denied_there = ap (λ b. cond b false true) (apart same_text same_text_decides w.source w.target sides)

  abbrev entries_of : List ℕ → List Entry
  entries_of table = map (serve u w no_types) (keys_created w table)

  told_of_table : (told : Option Bool) (table : List ℕ) → fold (told_by_entry w.target name) told (entries_of table) ≡ cond (same_text table name) (Some true) told
  told_of_table told table =
      ap (λ b. cond (b && same_text table name) (Some (is_denied_at w no_types w.target)) told) (itself w.target)
      ∙ ap (λ mark. cond (same_text table name) (Some mark) told) denied_there

  told_of_tables : (told : Option Bool) (tables : List (List ℕ)) → fold (told_by_entry w.target name) told (flat_map entries_of tables) ≡ cond (among tables name) (Some true) told
  told_of_tables told [] = refl
  told_of_tables told (table ∷ tables) =
      fold-append (told_by_entry w.target name) told (entries_of table) (flat_map entries_of tables)
      ∙ told_of_tables (fold (told_by_entry w.target name) told (entries_of table)) tables
      ∙ ap (cond (among tables name) (Some true)) (told_of_table told table) ∙ by (same_text table name) (among tables name)
    where
      by : (a b : Bool) → cond b (Some true) (cond a (Some true) told) ≡ cond (a || b) (Some true) told
      by true true = refl
      by true false = refl
      by false b = refl

  -- each moved table is denied at the target, and nothing else is told
  pub told_by_change : told_by_notice w.target (create_change u w) name ≡ cond (among w.tables name) (Some true) None
  told_by_change = told_of_tables None w.tables
