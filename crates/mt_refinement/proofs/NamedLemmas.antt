-- The workflows of a base, by the names of those that are live.
use Rattle.std.proofs.Common.{◌≡◌, ◌≢◌, ℕ, ◌<◌, Bool, true, false, cond, ◌||◌, List, [], ◌∷◌, AllPairs, length, map, Option, None, Some, is_some, refl, sym, ap, subst, ◌∙◌, arith}
use Rattle.std.proofs.lemmas.Bool.{true≢false}
use Rattle.std.proofs.lemmas.List.{get_or-map, length-map}
use Rattle.std.proofs.lemmas.Map.Made.{IsDistinct-from_AllPairs}
use Rattle.std.specs.List.{IsDistinct, list_any}
use Rattle.std.specs.Map.{keys_of}
use Rattle.mt_names.specs.Names.{same_text}
use Rattle.mt_names.proofs.EntryLemmas.{lookup_from_absent}
use Rattle.mt_names.proofs.SameLemmas.{same_text_decides}
use Rattle.mt_plain.specs.Next.{created}
use Rattle.mt_plain.specs.Plain.{Live, Plain, among, live_at, mover, moves}
use Rattle.mt_workflow.specs.Workflows.{WorkflowState}
use Rattle.mt_stands.specs.Base.{Workflows, workflow_at}
use Rattle.mt_stands.specs.Stands.{AreWorkflows, StandsFor, StandsForAny}
use Rattle.mt_stands.specs.Workflows.{is_moved}

-- ---- one that is found

abbrev pub NamesApart : Plain → Type 0
NamesApart p = AllPairs (λ v w. v.name ≢ w.name) p.lives

names_apart : (lives : List Live) → AllPairs (λ v w. v.name ≢ w.name) lives → AllPairs (λ a b. a ≢ b) (map (λ w. w.name) lives)
names_apart lives apart i j d below inside same =
    apart i j (created d [] [] [] [] 0) below is_inside
    (sym (get_or-map (λ (w : Live). w.name) lives i (created d [] [] [] [] 0) d (omega (arith, is_inside))) ∙ same ∙ get_or-map (λ (w : Live). w.name) lives j (created d [] [] [] [] 0) d is_inside)
  where
    is_inside : j < length lives
    is_inside = subst (λ n. j < n) (length-map lives (λ (w : Live). w.name)) inside

-- an entry whose key stands once is the one that is found
listed : (ws : Workflows) (test : WorkflowState → Bool) → IsDistinct same_text (keys_of ws) → list_any (λ w. test w.1) ws ≡ true
    → (name : List ℕ) × (w : WorkflowState) × (workflow_at ws name ≡ Some w) × (test w ≡ true)
unfolding IsDistinct
listed [] test distinct any = absurd (true≢false (sym any))
listed (e ∷ es) test distinct any = by (listed es test distinct.1) (test e.1) refl
  where
    by : (list_any (λ w. test w.1) es ≡ true → (name : List ℕ) × (w : WorkflowState) × (workflow_at es name ≡ Some w) × (test w ≡ true))
        → (b : Bool) → test e.1 ≡ b → (name : List ℕ) × (w : WorkflowState) × (workflow_at (e ∷ es) name ≡ Some w) × (test w ≡ true)
    by again true b = (e.0, e.1, ap (λ x. cond x (Some e.1) (workflow_at es e.0)) ((same_text_decides e.0 e.0).1 refl), b)
    by again false b = behind (again (rw b at any))
      where
        behind : (name : List ℕ) × (w : WorkflowState) × (workflow_at es name ≡ Some w) × (test w ≡ true)
            → (name : List ℕ) × (w : WorkflowState) × (workflow_at (e ∷ es) name ≡ Some w) × (test w ≡ true)
        behind (name, w, found, is) = at (same_text name e.0) refl
          where
            at : (x : Bool) → same_text name e.0 ≡ x → (name : List ℕ) × (w : WorkflowState) × (workflow_at (e ∷ es) name ≡ Some w) × (test w ≡ true)
            at true x =
                let none : workflow_at es name ≡ None = subst (λ n. workflow_at es n ≡ None) (sym ((same_text_decides name e.0).0 x)) (lookup_from_absent same_text same_text_decides es e.0 distinct.0) in
                absurd (let h : Some w ≡ None = sym found ∙ none in cc)
            at false x = (name, w, ap (λ y. cond y (Some e.1) (workflow_at es name)) x ∙ found, is)

found_any : (ws : Workflows) (test : WorkflowState → Bool) (name : List ℕ) (w : WorkflowState) → workflow_at ws name ≡ Some w → test w ≡ true → list_any (λ v. test v.1) ws ≡ true
found_any [] test name w found is = absurd (let h : None ≡ Some w = found in cc)
found_any (e ∷ es) test name w found is = by (found_any es test name w) (same_text name e.0) refl
  where
    or_true : (b : Bool) → (b || true) ≡ true
    or_true true = refl
    or_true false = refl

    by : (workflow_at es name ≡ Some w → test w ≡ true → list_any (λ v. test v.1) es ≡ true) → (b : Bool) → same_text name e.0 ≡ b → list_any (λ v. test v.1) (e ∷ es) ≡ true
    by again true b =
        let same : Some e.1 ≡ Some w = rw b at found in
        let it : e.1 ≡ w = cc in
        ap (λ x. x || list_any (λ v. test v.1) es) (ap test it ∙ is)
    by again false b = ap (λ x. test e.1 || x) (again (rw b at found) is) ∙ or_true (test e.1)

-- ---- those that stand for the live ones

module _ (p : Plain) (ws : Workflows) (are : AreWorkflows p ws) where
  pub same_names : (name : List ℕ) → is_some (workflow_at ws name) ≡ is_some (live_at p name)
  same_names name = by (live_at p name) (workflow_at ws name) (are.each name)
    where
      by : (l : Option Live) (w : Option WorkflowState) → StandsForAny p l w → is_some w ≡ is_some l
      by None None stands = refl
      by None (Some w) stands = absurd stands
      by (Some l) None stands = absurd stands
      by (Some l) (Some w) stands = refl

  pub same_count : length ws ≡ length p.lives
  same_count = sym (length-map ws (λ e. e.0)) ∙ ap length are.names ∙ length-map p.lives (λ w. w.name)

  -- the live one of a workflow, and the workflow of a live one
  pub live_of_workflow : (name : List ℕ) (w : WorkflowState) → workflow_at ws name ≡ Some w → (l : Live) × (live_at p name ≡ Some l) × StandsFor p l w
  live_of_workflow name w found = by (live_at p name) refl (subst (λ o. StandsForAny p (live_at p name) o) found (are.each name))
    where
      by : (o : Option Live) → live_at p name ≡ o → StandsForAny p (live_at p name) (Some w) → (l : Live) × (live_at p name ≡ Some l) × StandsFor p l w
      by None is stands = absurd (subst (λ o. StandsForAny p o (Some w)) is stands)
      by (Some l) is stands = (l, is, subst (λ o. StandsForAny p o (Some w)) is stands)

  pub workflow_of_live : (name : List ℕ) (l : Live) → live_at p name ≡ Some l → (w : WorkflowState) × (workflow_at ws name ≡ Some w) × StandsFor p l w
  workflow_of_live name l found = by (workflow_at ws name) refl (subst (λ o. StandsForAny p o (workflow_at ws name)) found (are.each name))
    where
      by : (o : Option WorkflowState) → workflow_at ws name ≡ o → StandsForAny p (Some l) (workflow_at ws name) → (w : WorkflowState) × (workflow_at ws name ≡ Some w) × StandsFor p l w
      by None is stands = absurd (subst (λ o. StandsForAny p (Some l) o) is stands)
      by (Some w) is stands = (w, is, subst (λ o. StandsForAny p (Some l) o) is stands)

  module _ (apart : NamesApart p) (found : (name : List ℕ) (w : Live) → live_at p name ≡ Some w → (table : List ℕ) → moves w table ≡ true → mover p table ≡ Some w)
      (moving : (table : List ℕ) (w : Live) → mover p table ≡ Some w → (moves w table ≡ true) × (live_at p w.name ≡ Some w)) where
    distinct : IsDistinct same_text (keys_of ws)
    distinct = subst (IsDistinct same_text) (sym are.names) (IsDistinct-from_AllPairs same_text_decides (map (λ w. w.name) p.lives) (names_apart p.lives apart))

    pub same_moved : (table : List ℕ) → is_moved ws table ≡ is_some (mover p table)
    same_moved table = by (mover p table) refl (is_moved ws table) refl
      where
        by : (o : Option Live) → mover p table ≡ o → (b : Bool) → is_moved ws table ≡ b → is_moved ws table ≡ is_some (mover p table)
        by None none false b = b ∙ sym (ap is_some none)
        by None none true b = at (listed ws (λ w. among w.tables table) distinct b)
          where
            at : (name : List ℕ) × (w : WorkflowState) × (workflow_at ws name ≡ Some w) × (among w.tables table ≡ true) → is_moved ws table ≡ is_some (mover p table)
            at (name, w, is, moves_it) =
                let (l, live, stands) = live_of_workflow name w is in
                let here : mover p table ≡ Some l = found name l live table (ap (λ ts. among ts table) stands.sides.tables ∙ moves_it) in
                absurd (let h : None ≡ Some l = sym none ∙ here in cc)
        by (Some l) some b is =
            let (m, live) = moving table l some in
            let (w, there, stands) = workflow_of_live l.name l live in
            found_any ws (λ v. among v.tables table) l.name w there (sym (ap (λ ts. among ts table) stands.sides.tables) ∙ m) ∙ sym (ap is_some some)
