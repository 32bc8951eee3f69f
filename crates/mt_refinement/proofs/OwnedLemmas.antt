-- What is asked of all workflows is asked of all live ones: they are those, one for one.
use Rattle.std.proofs.Common.{◌≡◌, ◌≢◌, ℕ, Bool, true, false, cond, zero, suc, List, [], ◌∷◌, find, map, Option, None, Some, is_some, refl, sym, ap, ◌∙◌, subst, arith, AllPairs}
use Rattle.std.proofs.lemmas.List.Elements.{All-head, All-tail}
use Rattle.std.specs.List.{All, AllByRecursion, list_any}
use Rattle.std.specs.Map.{keys_of}
use Rattle.std.specs.Prelude.{⊤, ◌||◌}
use Rattle.mt_names.proofs.EntryLemmas.{apart, lookup_from_absent, same_itself, same_turned}
use Rattle.mt_names.proofs.SameLemmas.{same_text_decides}
use Rattle.mt_names.specs.Names.{same_text}
use Rattle.mt_model.specs.declared.entries.EntryKey.{EntryKey}
use Rattle.mt_plain.specs.Plain.{Live, Plain, has_part, live_at, part_owner}
use Rattle.mt_laws.specs.Changes.{HasSides}
use Rattle.mt_workflow.specs.Workflows.{WorkflowState, live_of}
use Rattle.mt_stands.proofs.StandLemmas.{same_part}
use Rattle.mt_stands.specs.ByHand.{is_owned}
use Rattle.mt_stands.specs.Base.{Workflows, workflow_at}
use Rattle.mt_stands.specs.Stands.{AreWorkflows, StandsForAny}
use Rattle.mt_stands.proofs.CountLemmas.{by_recursion}

-- ---- names that stand once each

abbrev pub NamesApart : List Live → Type 0
NamesApart [] = ⊤
NamesApart (v ∷ vs) = AllByRecursion (λ w. v.name ≢ w.name) vs × NamesApart vs

pub names_apart : (ws : List Live) → AllPairs (λ v w. v.name ≢ w.name) ws → NamesApart ws
names_apart [] pairs = tt
names_apart (w ∷ ws) pairs = (
  by_recursion (λ v. w.name ≢ v.name) ws (λ i d inside. pairs zero (suc i) d (omega arith) (omega arith)),
  names_apart ws (λ i j d below inside. pairs (suc i) (suc j) d (omega arith) (omega arith)),
)

pub none_of_name : (name : List ℕ) (vs : List Live) → AllByRecursion (λ w. name ≢ w.name) vs → find (λ w. same_text w.name name) vs ≡ None
none_of_name name [] all = refl
none_of_name name (v ∷ vs) all = rw (apart same_text same_text_decides v.name name (λ e. all.0 (sym e))) (none_of_name name vs all.1)

pub absent_name : (name : List ℕ) (vs : List Live) → AllByRecursion (λ w. name ≢ w.name) vs → AllByRecursion (λ k. same_text name k ≡ false) (map (λ w. w.name) vs)
absent_name name [] all = tt
absent_name name (v ∷ vs) all = (apart same_text same_text_decides name v.name all.0, absent_name name vs all.1)

-- ---- one for one

-- a workflow has the name, the sides and the tables of the live one
abbrev pub SidesOfAny : Option Live → Option WorkflowState → Type 0
SidesOfAny None None = ⊤
SidesOfAny (Some live) (Some w) = HasSides live (live_of w)
SidesOfAny live w = ⊥

abbrev named : List Live → List ℕ → Option Live
named vs name = find (λ w. same_text w.name name) vs

module _ (test : Live → Bool) (alike : (v w : Live) → HasSides v w → test v ≡ test w) where
  pub any_alike : (vs : List Live) (ws : Workflows) → keys_of ws ≡ map (λ w. w.name) vs → NamesApart vs → ((name : List ℕ) → SidesOfAny (named vs name) (workflow_at ws name))
      → list_any (λ w. test (live_of w.1)) ws ≡ list_any test vs
  any_alike [] [] keys distinct each = refl
  any_alike [] (w ∷ ws) keys distinct each = absurd cc
  any_alike (v ∷ vs) [] keys distinct each = absurd cc
  any_alike (v ∷ vs) (w ∷ ws) keys distinct each =
      ap (λ b. b || list_any (λ x. test (live_of x.1)) ws) (sym (alike v (live_of w.1) first))
      ∙ ap (λ b. test v || b) (any_alike vs ws others distinct.1 rest)
    where
      is_name : w.0 ≡ v.name
      is_name = cc

      others : keys_of ws ≡ map (λ x. x.name) vs
      others = cc

      first : HasSides v (live_of w.1)
      first =
          let at : SidesOfAny (cond (same_text v.name v.name) (Some v) (named vs v.name)) (cond (same_text v.name w.0) (Some w.1) (workflow_at ws v.name)) = each v.name in
          let here : same_text v.name w.0 ≡ true = (same_text_decides v.name w.0).1 (sym is_name) in
          rw (same_itself same_text same_text_decides v.name, here) at at

      rest : (name : List ℕ) → SidesOfAny (named vs name) (workflow_at ws name)
      rest name = by (same_text v.name name) refl
        where
          by : (t : Bool) → same_text v.name name ≡ t → SidesOfAny (named vs name) (workflow_at ws name)
          by true same =
              let at : v.name ≡ name = (same_text_decides v.name name).0 same in
              subst (λ n. SidesOfAny (named vs n) (workflow_at ws n)) at
              (subst (λ o. SidesOfAny o (workflow_at ws v.name)) (sym (none_of_name v.name vs distinct.0))
              (subst (λ o. SidesOfAny None o)
              (sym (lookup_from_absent same_text same_text_decides ws v.name (subst (AllByRecursion (λ k. same_text v.name k ≡ false)) (sym others) (absent_name v.name vs distinct.0)))) tt))
          by false differs =
              let at : SidesOfAny (cond (same_text v.name name) (Some v) (named vs name)) (cond (same_text name w.0) (Some w.1) (workflow_at ws name)) = each name in
              let other : same_text name w.0 ≡ false = ap (same_text name) is_name ∙ same_turned same_text same_text_decides name v.name ∙ differs in
              rw (differs, other) at at

-- ---- the live workflows of a state

sides_of : (p : Plain) (o : Option Live) (w : Option WorkflowState) → StandsForAny p o w → SidesOfAny o w
sides_of p None None stands = tt
sides_of p (Some live) (Some w) stands = stands.sides
sides_of p None (Some w) stands = stands
sides_of p (Some live) None stands = stands

pub any_live : (p : Plain) (ws : Workflows) → AllPairs (λ v w. v.name ≢ w.name) p.lives → AreWorkflows p ws → (test : Live → Bool) → ((v w : Live) → HasSides v w → test v ≡ test w)
    → list_any (λ w. test (live_of w.1)) ws ≡ list_any test p.lives
any_live p ws pairs are test alike =
    any_alike test alike p.lives ws are.names (names_apart p.lives pairs) (λ name. sides_of p (live_at p name) (workflow_at ws name) (are.each name))

pub any_found : {X : Type 0} (test : X → Bool) (xs : List X) → list_any test xs ≡ is_some (find test xs)
any_found test [] = refl
any_found test (x ∷ xs) = by (any_found test xs) (test x)
  where
    by : list_any test xs ≡ is_some (find test xs) → (t : Bool) → (t || list_any test xs) ≡ is_some (cond t (Some x) (find test xs))
    by again true = refl
    by again false = again

-- an entry lies in the part of a live workflow
pub owned_is : (p : Plain) (ws : Workflows) → AllPairs (λ v w. v.name ≢ w.name) p.lives → AreWorkflows p ws → (key : EntryKey) → is_owned ws key ≡ is_some (part_owner p key)
owned_is p ws pairs are key = any_live p ws pairs are (λ w. has_part w key) (λ v w same. same_part v w same key) ∙ any_found (λ w. has_part w key) p.lives
