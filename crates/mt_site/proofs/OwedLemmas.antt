-- What is owed to all workflows is what is owed to all live ones: they are those, one for one.
use Rattle.std.proofs.Common.{◌≡◌, ◌≢◌, ℕ, ◌+◌, Bool, true, false, cond, List, [], ◌∷◌, find, map, max, Option, None, Some, refl, sym, ap, ◌∙◌, subst, AllPairs}
use Rattle.std.proofs.lemmas.List.Sums.{sum_by-cons}
use Rattle.std.specs.List.{AllByRecursion}
use Rattle.std.specs.Map.{keys_of}
use Rattle.std.specs.Option.{option_map_or}
use Rattle.std.specs.Prelude.{if◌then◌else◌, sum_by}
use Rattle.mt_names.proofs.EntryLemmas.{lookup_from_absent, same_itself, same_turned}
use Rattle.mt_names.proofs.SameLemmas.{same_text_decides}
use Rattle.mt_names.specs.Names.{same_text}
use Rattle.mt_plain.specs.Events.{Way}
use Rattle.mt_plain.specs.Plain.{Live, Plain, stands_done, write_journal}
use Rattle.mt_plain.specs.Refuse.{owed, owed_by}
use Rattle.mt_workflow.specs.Workflows.{WorkflowState, live_of}
use Rattle.mt_stands.specs.Base.{Workflows, workflow_at}
use Rattle.mt_stands.specs.Stands.{AreWorkflows, StandsFor, StandsForAny}
use Rattle.mt_site.specs.Owed.{owed_to}
use Rattle.mt_refinement.proofs.OwnedLemmas.{NamesApart, absent_name, names_apart, none_of_name}

-- ---- one for one

abbrev named : List Live → List ℕ → Option Live
named vs name = find (λ w. same_text w.name name) vs

-- what is owed hangs on the way alone
owed_by-same : (p : Plain) (v : Live) (w : WorkflowState) → StandsFor p v w → owed_by (live_of w) ≡ owed_by v
owed_by-same p v w stands =
    ap (λ (o : Option Way). 1 + option_map_or (λ way. if stands_done way write_journal then 0 else max 1 way.done) o 0) stands.way

module _ (p : Plain) where
  owed_alike : (vs : List Live) (ws : Workflows) → keys_of ws ≡ map (λ w. w.name) vs → NamesApart vs → ((name : List ℕ) → StandsForAny p (named vs name) (workflow_at ws name))
      → owed_to ws ≡ sum_by owed_by vs
  owed_alike [] [] keys distinct each = refl
  owed_alike [] (w ∷ ws) keys distinct each = absurd cc
  owed_alike (v ∷ vs) [] keys distinct each = absurd cc
  owed_alike (v ∷ vs) (w ∷ ws) keys distinct each =
      sum_by-cons (λ (x : List ℕ × WorkflowState). owed_by (live_of x.1)) w ws
      ∙ ap (λ n. n + owed_to ws) (owed_by-same p v w.1 first)
      ∙ ap (λ n. owed_by v + n) (owed_alike vs ws others distinct.1 rest)
      ∙ sym (sum_by-cons owed_by v vs)
    where
      is_name : w.0 ≡ v.name
      is_name = cc

      others : keys_of ws ≡ map (λ x. x.name) vs
      others = cc

      first : StandsFor p v w.1
      first =
          let at : StandsForAny p (cond (same_text v.name v.name) (Some v) (named vs v.name)) (cond (same_text v.name w.0) (Some w.1) (workflow_at ws v.name)) = each v.name in
          let here : same_text v.name w.0 ≡ true = (same_text_decides v.name w.0).1 (sym is_name) in
          rw (same_itself same_text same_text_decides v.name, here) at at

      rest : (name : List ℕ) → StandsForAny p (named vs name) (workflow_at ws name)
      rest name = by (same_text v.name name) refl
        where
          by : (t : Bool) → same_text v.name name ≡ t → StandsForAny p (named vs name) (workflow_at ws name)
          by true same =
              let at : v.name ≡ name = (same_text_decides v.name name).0 same in
              subst (λ n. StandsForAny p (named vs n) (workflow_at ws n)) at
              (subst (λ o. StandsForAny p o (workflow_at ws v.name)) (sym (none_of_name v.name vs distinct.0))
              (subst (λ o. StandsForAny p None o)
              (sym (lookup_from_absent same_text same_text_decides ws v.name (subst (AllByRecursion (λ k. same_text v.name k ≡ false)) (sym others) (absent_name v.name vs distinct.0)))) tt))
          by false differs =
              let at : StandsForAny p (cond (same_text v.name name) (Some v) (named vs name)) (cond (same_text name w.0) (Some w.1) (workflow_at ws name)) = each name in
              let other : same_text name w.0 ≡ false = ap (same_text name) is_name ∙ same_turned same_text same_text_decides name v.name ∙ differs in
              rw (differs, other) at at

-- ---- the live workflows of a state

pub owed_same : (p : Plain) (ws : Workflows) → AllPairs (λ v w. v.name ≢ w.name) p.lives → AreWorkflows p ws → owed_to ws ≡ owed p
owed_same p ws pairs are = owed_alike p p.lives ws are.names (names_apart p.lives pairs) are.each
