-- Lines of a client, one more; what a client asked; and the one history of four.
use Rattle.std.proofs.Common.{◌≡◌, ◌∙◌, ◌+◌, ℕ, List, [], ◌∷◌, ◌++◌, ap, subst, sym, zero-add}
use Rattle.std.proofs.lemmas.List.FromFn.{map-range_with_len_more}
use Rattle.mt_desk.specs.declared.history.Call.{Call}
use Rattle.mt_workers.specs.declared.line.Line.{Line}
use Rattle.mt_caller.specs.Moves.{AreOne, Exists, IsOfClient, IsOfController, IsOfFeeder, insert_of, inserts}

pub pushed_insert : (now after : List Line) (row : ℕ) (line : Line) → line ≡ insert_of row → now ≡ inserts row → after ≡ now ++ line ∷ [] → after ≡ inserts (row + 1)
pushed_insert now after row line is held pushed =
    pushed ∙ ap (λ l. l ++ line ∷ []) held ∙ ap (λ x. inserts row ++ x ∷ []) is ∙ sym (map-range_with_len_more insert_of 0 row row (zero-add row))

-- of a pass that listed nothing before, and of all rows
pub asked_of : {A : Type 0} (Asks : A → List Line → List Call → ℕ → Type 0) (known : A) (lines : List Line) (before calls items : List Call) (sent : ℕ)
    → lines ≡ inserts 32 → before ≡ [] → items ≡ before ++ calls → sent ≡ 32 → Asks known lines calls sent → Exists (λ k. Asks k (inserts 32) items 32)
asked_of Asks known lines before calls items sent are none is all asked = ∣ (
  known,
  subst (λ ls. Asks known ls items 32) are
      (subst (λ cs. Asks known lines cs 32) (sym (is ∙ ap (λ b. b ++ calls) none)) (subst (Asks known lines calls) all asked)),
) ∣₁

-- by the numbers of their clients
pub one_of : (HaveOne : List (ℕ × List Call) → Type 0) (k l m n : ℕ) (created asked fed switched : List Call) → k ≡ 1 → l ≡ 2 → m ≡ 3 → n ≡ 4
    → IsOfClient asked → IsOfFeeder fed → IsOfController switched → HaveOne ((k, created) ∷ (l, asked) ∷ (m, fed) ∷ (n, switched) ∷ []) → AreOne HaveOne
one_of HaveOne k l m n created asked fed switched first second third fourth client feeder controller one = ∣ (
  created,
  asked,
  fed,
  switched,
  client,
  feeder,
  controller,
  subst (λ i. HaveOne ((1, created) ∷ (2, asked) ∷ (3, fed) ∷ (i, switched) ∷ [])) fourth
      (subst (λ i. HaveOne ((1, created) ∷ (2, asked) ∷ (i, fed) ∷ (n, switched) ∷ [])) third
      (subst (λ i. HaveOne ((1, created) ∷ (i, asked) ∷ (m, fed) ∷ (n, switched) ∷ [])) second
      (subst (λ i. HaveOne ((i, created) ∷ (l, asked) ∷ (m, fed) ∷ (n, switched) ∷ [])) first one))),
) ∣₁
