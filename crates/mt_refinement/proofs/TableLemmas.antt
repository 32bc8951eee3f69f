-- Both sides of a live workflow have its tables, and their primaries are there.
use Rattle.std.proofs.Common.{◌≡◌, ℕ, Bool, true, false, cond, ◌&&◌, ◌||◌, List, [], ◌∷◌, find, Some, is_some, refl, sym, ap, ◌∙◌}
use Rattle.std.proofs.lemmas.Bool.{and_from}
use Rattle.std.specs.List.{list_any}
use Rattle.mt_names.specs.Names.{same_text}
use Rattle.mt_model.specs.declared.entries.EntryKey.{EntryKey}
use Rattle.mt_model.specs.declared.entries.EntryKey.TheVariants as about
use Rattle.mt_model.specs.Topology.{is_present}
use Rattle.mt_plain.specs.Plain.{Live, Plain, has_part, moves, part_owner}
use Rattle.mt_plain.specs.Serve.{has_table}
use Rattle.mt_laws.specs.Reached.{IsInPlace}
use Rattle.mt_stands.proofs.KnownLemmas.{itself}

-- one is found just where there is any
found_any : {X : Type 0} (test : X → Bool) (xs : List X) → is_some (find test xs) ≡ list_any test xs
found_any test [] = refl
found_any test (x ∷ xs) = by (test x) (found_any test xs)
  where
    by : (t : Bool) → is_some (find test xs) ≡ list_any test xs → is_some (cond t (Some x) (find test xs)) ≡ (t || list_any test xs)
    by true again = refl
    by false again = again

module _ (p : Plain) (w : Live) (placed : IsInPlace p.topology w) (table : List ℕ) (moved : moves w table ≡ true) where
  pub source_has : has_table p w.source table ≡ true
  source_has = by (list_any (λ (v : Live). moves v table && same_text v.target w.source) p.lives)
    where
      by : (b : Bool) → cond b true (is_present p.topology.keyspaces w.source table) ≡ true
      by true = refl
      by false = placed.at_source table moved

  pub target_has : ((key : EntryKey) → has_part w key ≡ true → part_owner p key ≡ Some w) → has_table p w.target table ≡ true
  target_has owned =
      ap (λ b. cond b true (is_present p.topology.keyspaces w.target table))
      (sym (found_any (λ (v : Live). moves v table && same_text v.target w.target) p.lives)
      ∙ ap is_some (owned (about.Present w.target table) (and_from (moves w table) (same_text w.target w.target) moved (itself w.target))))
