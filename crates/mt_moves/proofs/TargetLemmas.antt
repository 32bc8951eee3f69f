-- Tables that are made one by one at a primary that has none of them.
use Rattle.std.proofs.Common.{◌≡◌, ◌≢◌, ℕ, zero, suc, ◌<◌, Bool, true, false, List, [], ◌∷◌, AllPairs, fold, get_or, length, take, Result, Ok, Err, refl, sym, ap, ◌∙◌, arith}
use Rattle.std.proofs.lemmas.Map.Made.{IsDistinct-from_AllPairs}
use Rattle.std.specs.List.{AllByRecursion, IsDistinct}
use Rattle.std.specs.Prelude.{◌||◌, ⊤}
use Rattle.std.specs.Result.{is_err}
use Rattle.std.proofs.lemmas.Bool.{true≢false}
use Rattle.mt_names.specs.Names.{same_text}
use Rattle.mt_names.proofs.SameLemmas.{same_text_decides}
use Rattle.mt_model.specs.declared.entries.Entry.{Entry}
use Rattle.mt_model.specs.declared.entries.Scope.{Scope}
use Rattle.mt_model.specs.declared.entries.Scope.TheVariants as scope
use Rattle.mt_model.specs.declared.faults.PrimaryFault.{PrimaryFault}
use Rattle.mt_event.specs.declared.reason.Reason.{Reason}
use Rattle.mt_plain.specs.Plain.{among}
use Rattle.mt_primary.specs.Primary.{PrimaryState, has_table}
use Rattle.mt_primary.specs.Writes.{Creates, with_new_table, without_table}
use Rattle.mt_watch.specs.Asking.{Answering, AsksEach}
use Rattle.mt_watch.specs.declared.fault.WatchersFault.{WatchersFault}
use Rattle.mt_watch.specs.declared.fault.WatchersFault.TheVariants as watchers
use Rattle.mt_workflow.specs.Workflows.{WorkflowState}
use Rattle.mt_stands.proofs.BridgeLemmas.{has-all_made, made_and_dropped_in_order}
use Rattle.mt_moves.specs.Target.{MakesTarget, refusal_by_watchers}

-- a name among the first ones is among all
pub among-take : (tables : List (List ℕ)) (i : ℕ) (table : List ℕ) → among (take i tables) table ≡ true → among tables table ≡ true
among-take [] zero table is = is
among-take [] (suc i) table is = is
among-take (t ∷ ts) zero table is = absurd cc
among-take (t ∷ ts) (suc i) table is = by (among-take ts i table) (same_text t table) is
  where
    by : (among (take i ts) table ≡ true → among ts table ≡ true) → (b : Bool) → (b || among (take i ts) table) ≡ true → (b || among ts table) ≡ true
    by again true e = refl
    by again false e = again e

item-differs : (t : List ℕ) (ts : List (List ℕ)) → AllByRecursion (λ j. same_text t j ≡ false) ts → (i : ℕ) (d : List ℕ) → i < length ts → same_text t (get_or ts i d) ≡ false
item-differs t [] each i d inside = absurd (omega (arith, inside))
item-differs t (x ∷ xs) each zero d inside = each.0
item-differs t (x ∷ xs) each (suc i) d inside = item-differs t xs each.1 i d (omega (arith, inside))

not-before : (tables : List (List ℕ)) → IsDistinct same_text tables → (i : ℕ) (d : List ℕ) → i < length tables → among (take i tables) (get_or tables i d) ≡ false
unfolding IsDistinct
not-before [] distinct i d inside = absurd (omega (arith, inside))
not-before (t ∷ ts) distinct zero d inside = refl
not-before (t ∷ ts) distinct (suc i) d inside = rw (item-differs t ts distinct.0 i d (omega (arith, inside))) (not-before ts distinct.1 i d (omega (arith, inside)))

-- a table is among those of which it is one
pub among-item : (tables : List (List ℕ)) (i : ℕ) (d : List ℕ) → i < length tables → among tables (get_or tables i d) ≡ true
among-item [] i d inside = absurd (omega (arith, inside))
among-item (t ∷ ts) zero d inside = rw ((same_text_decides t t).1 refl) refl
among-item (t ∷ ts) (suc i) d inside = by (same_text t (get_or ts i d)) (among-item ts i d (omega (arith, inside)))
  where
    by : (b : Bool) → among ts (get_or ts i d) ≡ true → (b || among ts (get_or ts i d)) ≡ true
    by true e = refl
    by false e = e

module _ (old : PrimaryState) (tables : List (List ℕ)) (absent : (table : List ℕ) → among tables table ≡ true → has_table old table ≡ false) where
  -- the next table is not there
  pub absent-next : AllPairs ◌≢◌ tables → (now : PrimaryState) (i : ℕ) (d : List ℕ) → i < length tables → now ≡ fold with_new_table old (take i tables)
      → has_table now (get_or tables i d) ≡ false
  absent-next distinct now i d inside is =
      ap (λ p. has_table p (get_or tables i d)) is ∙ has-all_made (take i tables) old (get_or tables i d)
      ∙ ap (λ b. b || has_table old (get_or tables i d)) (not-before tables (IsDistinct-from_AllPairs same_text_decides tables distinct) i d inside)
      ∙ absent (get_or tables i d) (among-item tables i d inside)

  -- those that are made are dropped again
  pub dropped-again : (now back : PrimaryState) (i : ℕ) → now ≡ fold with_new_table old (take i tables) → back ≡ fold without_table now (take i tables) → back ≡ old
  dropped-again now back i is dropped =
      dropped ∙ ap (λ p. fold without_table p (take i tables)) is
      ∙ made_and_dropped_in_order (take i tables) old (λ table is. absent table (among-take tables i table is))

-- what could not be made changed nothing
pub not-made : (old new : PrimaryState) (name : List ℕ) (r : Result ⊤ PrimaryFault) → is_err r ≡ true → Creates old name r new → new ≡ old
not-made old new name (Ok done) e did = absurd (true≢false (sym e))
not-made old new name (Err fault) e did = did.1

-- what the watchers refuse leaves the primaries
pub target-refused : (scopes : List Scope) (may_answer : Answering) (w : WorkflowState) (change : List Entry) (old now : List PrimaryState) (fault : WatchersFault) (r : Reason)
    → AsksEach scopes may_answer (scope.Primary w.target) change (Err fault) → r ≡ refusal_by_watchers fault → now ≡ old → MakesTarget scopes may_answer w change old (Err r) now
target-refused scopes may_answer w change old now (watchers.Refused i) r asks is same = rw is (asks, same)
target-refused scopes may_answer w change old now watchers.NoWatcher r asks is same = rw is (asks, same)
target-refused scopes may_answer w change old now watchers.Memory r asks is same = absurd asks
target-refused scopes may_answer w change old now watchers.Full r asks is same = absurd asks
