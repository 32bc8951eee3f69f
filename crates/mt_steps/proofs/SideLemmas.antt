-- The sides of a record are those of its workflow, and what a step writes of their denials.
use Rattle.std.proofs.Common.{◌≡◌, ◌≢◌, ℕ, Bool, true, false, not, ◌==◌, if◌then◌else◌, List, [], ◌∷◌, get_or, length, map, refl, ap, arith, ◌∙◌}
use Rattle.std.proofs.lemmas.Bool.{false_from_ne_true}
use Rattle.mt_model.specs.declared.entries.Entry.TheVariants as entry
use Rattle.mt_model.specs.declared.entries.EntryKey.{EntryKey}
use Rattle.mt_model.specs.declared.entries.EntryKey.TheVariants as about
use Rattle.mt_model.specs.Part.{part_keys}
use Rattle.mt_model.specs.Topology.{TopologyState, key_of, with_entry}
use Rattle.mt_names.specs.declared.types.TypeSet.{TypeSet}
use Rattle.mt_names.specs.Names.{same_text}
use Rattle.mt_names.proofs.SameLemmas.{same_text_decides}
use Rattle.mt_plain.specs.Serve.{is_denied_at}
use Rattle.mt_workflow.specs.Workflows.{WorkflowState, live_of}
use Rattle.mt_steps.specs.declared.records.TableRecord.{TableRecord}
use Rattle.mt_steps.specs.Entries.{swept, with_wanted}
use Rattle.mt_steps.specs.Records.{denial_step, entries_of}

-- the side of a key that has one
side_in : EntryKey → List ℕ
side_in (about.Rule key) = []
side_in (about.Denied side table) = side
side_in (about.Present side table) = side

module _ (s g source target : List ℕ) where
  AreOf : List (List ℕ) → List TableRecord → Type 0
  AreOf tables records = map key_of (entries_of s g records) ≡ part_keys source target tables

  -- the denials of the first table stand at the sides
  sides : (tables : List (List ℕ)) (r : TableRecord) (records : List TableRecord) → AreOf tables (r ∷ records) → (s ≡ source) × (g ≡ target)
  unfolding AreOf side_in
  sides [] r records are = absurd (omega (arith, ap length are))
  sides (table ∷ tables) r records are = let none : EntryKey = about.Denied [] [] in (ap (λ ks. side_in (get_or ks 12 none)) are, ap (λ ks. side_in (get_or ks 13 none)) are)

  pub same_entries : (tables : List (List ℕ)) (records : List TableRecord) → map key_of (entries_of s g records) ≡ part_keys source target tables → entries_of s g records ≡ entries_of source target records
  unfolding AreOf
  same_entries tables [] are = refl
  same_entries tables (r ∷ records) are = let is = sides tables r records are in ap (λ x. entries_of x g (r ∷ records)) is.0 ∙ ap (λ x. entries_of source x (r ∷ records)) is.1

  -- the same once they are swept
  pub same_entries_swept : (w : WorkflowState) (types : TypeSet) (n : ℕ) (t : TopologyState) (tables : List (List ℕ)) (old now : List TableRecord) → map key_of (entries_of s g old) ≡ part_keys source target tables
      → entries_of source target now ≡ swept w types n t (entries_of source target old) → entries_of s g now ≡ entries_of source target now
  unfolding AreOf
  same_entries_swept w types n t tables [] [] are is = refl
  same_entries_swept w types n t tables [] (x ∷ now) are is = absurd (omega (arith, ap length is))
  same_entries_swept w types n t tables (r ∷ old) now are is = let these = sides tables r old are in ap (λ x. entries_of x g now) these.0 ∙ ap (λ x. entries_of source x now) these.1

-- ---- the denial at a side

text_differs : (a b : List ℕ) → a ≢ b → same_text a b ≡ false
text_differs a b apart = false_from_ne_true (same_text a b) (λ same. apart ((same_text_decides a b).0 same))

-- the target is denied where the types for primary aren't switched, and the source where they are
pub denied_at_side : (w : WorkflowState) (types : TypeSet) (b : Bool) → w.source ≢ w.target
    → is_denied_at (live_of w) types (if b then w.target else w.source) ≡ (if b then not types.primary else types.primary)
denied_at_side w types true apart = rw (text_differs w.source w.target apart) refl
denied_at_side w types false apart = rw ((same_text_decides w.source w.source).1 refl) refl

-- what is written where it changes with the step
pub denial_written : (w : WorkflowState) (types : TypeSet) (n : ℕ) (t : TopologyState) (side table : List ℕ) (mark : Bool) → is_denied_at (live_of w) types side ≡ mark
    → (denial_step w side == n) ≡ true → with_entry t (entry.Denied side table mark) ≡ with_wanted w types n t (about.Denied side table)
denial_written w types n t side table mark is at = rw (at, is) refl
