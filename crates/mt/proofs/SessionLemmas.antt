-- A line of a session, and its answer in a place.
use native.Mathlib.Omega.{arith}
use Rattle.std.proofs.Common.{◌≡◌, ◌≢◌, ℕ, ◌≤◌, List, [], ◌∷◌, ◌++◌, length, take, refl, sym, ap, ◌∙◌, subst, inr}
use Rattle.std.proofs.Math.Logic.{∥∥₁_elim}
use Rattle.std.proofs.Props.{props}
use Rattle.std.specs.Prelude.{⊤}
use Rattle.mt_model.specs.declared.entries.Scope.{Scope}
use Rattle.mt_stands.specs.Ways.{CoreState}
use Rattle.mt_run.specs.declared.line_run.Answered.{Answered}
use Rattle.mt_run.specs.declared.line_run.Answered.TheVariants as how
use Rattle.mt_run.specs.LineRuns.{AddsLine, SoFar}
use Rattle.mt_run.specs.Runs.{AsksDocument, OnDocument}
use Rattle.mt.specs.declared.status.Status.{Status}
use Rattle.mt.specs.declared.status.Status.TheVariants as status
use Rattle.mt.specs.Places.{PutsAnswer}
use Rattle.mt.specs.declared.session.Session.{Session}
use Rattle.mt.specs.Sessions.{TellsOf, longest_answer, scopes_of}

-- where there was no memory that is the status
abbrev IsMemory : Status → Type 0
IsMemory status.Memory = ⊤
IsMemory other = ⊥

abbrev Told : Type 0
Told = Status × ℕ

memory_is : (s : Status) (count : ℕ) → ◌≡◌ {A = Told} (s, count) (status.Memory, 0) → IsMemory s
memory_is s count is = subst (λ (t : Told). IsMemory t.0) (sym is) tt

module _ (scopes : List Scope) (lines : List (List ℕ)) (out line : List ℕ) (old new : CoreState) (waiting place place' : List ℕ) (count : ℕ) where
  -- what is put is what the line adds
  pub adds_put : (answered : Answered) → AddsLine scopes line old new [] waiting answered → PutsAnswer answered waiting place place' (status.Done, count) → SoFar scopes lines out old
      → SoFar scopes (lines ++ line ∷ []) (out ++ take count place') new
  adds_put how.Line adds (long, fits, same, put) so_far =
      let (text, is, more) = adds lines out so_far in
      subst (λ (t : List ℕ). SoFar scopes (lines ++ line ∷ []) (out ++ t) new) (sym (put ∙ is)) more
  adds_put (how.Document text) adds (long, fits, same, put) so_far = subst (λ (t : List ℕ). SoFar scopes (lines ++ line ∷ []) (out ++ t) new) (sym put) (adds lines out so_far)
  adds_put how.NoMemory adds (is, same) so_far = absurd (memory_is status.Done count is)

module _ (scopes scopes' : List Scope) (lines lines' : List (List ℕ)) (out out' line : List ℕ) (old new : CoreState) (waits waiting place place' : List ℕ) (count : ℕ) (same : scopes' ≡ scopes) where
  -- a line that is answered is one of those so far
  pub line_kept : (answered : Answered) (s : Status) → waits ≡ [] → AddsLine scopes line old new waits waiting answered → PutsAnswer answered waiting place place' (s, count) → s ≡ status.Done
      → (lines' ≡ lines ++ line ∷ []) × (out' ≡ out ++ take count place') → ∥ SoFar scopes lines out old ∥₁ → ∥ SoFar scopes' lines' out' new ∥₁
  line_kept answered s none adds puts done (kept, told) before = ∥∥₁_elim before (hlevel props) (λ so_far.
      let now = adds_put scopes lines out line old new waiting place place' count answered (subst (λ (w : List ℕ). AddsLine scopes line old new w waiting answered) none adds)
      (subst (λ (t : Status). PutsAnswer answered waiting place place' (t, count)) done puts) so_far in
      ∣ subst (λ k. SoFar k lines' out' new) (sym same) (subst (λ l. SoFar scopes l out' new) (sym kept) (subst (λ o. SoFar scopes (lines ++ line ∷ []) o new) (sym told) now)) ∣₁)

  -- one that isn't leaves them
  pub line_left : new ≡ old → ∥ SoFar scopes lines out old ∥₁ → ∥ SoFar scopes' lines out new ∥₁
  line_left unchanged before = subst (λ k. ∥ SoFar k lines out new ∥₁) (sym same) (subst (λ c. ∥ SoFar scopes lines out c ∥₁) (sym unchanged) before)

-- a line of output has room
line_put : (waiting place place' : List ℕ) (s : Status) (count : ℕ) → length waiting ≤ longest_answer → longest_answer ≤ length place
    → PutsAnswer how.Line waiting place place' (s, count) → s ≢ status.Done → ⊥
line_put waiting place place' status.Done count short room put not = not refl
line_put waiting place place' status.Room count short room (long, less, same) not = omega (arith, long, less, short, room)
line_put waiting place place' status.Memory count short room put not = put
line_put waiting place place' status.Closed count short room put not = put
line_put waiting place place' status.Open count short room put not = put
line_put waiting place place' status.Names count short room put not = put
line_put waiting place place' status.TooLong count short room put not = put

-- so where nothing is put, the line asks for a document
pub not_put : {P : Type 0} (waiting place place' : List ℕ) (answered : Answered) (s : Status) (count : ℕ) → length waiting ≤ longest_answer → longest_answer ≤ length place
    → PutsAnswer answered waiting place place' (s, count) → s ≢ status.Done → OnDocument answered P → P
not_put waiting place place' how.Line s count short room put not holds = absurd (line_put waiting place place' s count short room put not)
not_put waiting place place' (how.Document text) s count short room put not holds = holds
not_put waiting place place' how.NoMemory s count short room put not holds = holds

module _ (Says : List Scope → List (List ℕ) → List ℕ → Type 0) (old : Session) (line waiting place place' : List ℕ) (count : ℕ) where
  -- a line isn't answered, and what was said stays
  pub tells_not : (answered : Answered) (s : Status) → length waiting ≤ longest_answer → longest_answer ≤ length place → PutsAnswer answered waiting place place' (s, count) → s ≢ status.Done
      → OnDocument answered (AsksDocument line) → Says (scopes_of old) old.said.lines old.said.out → TellsOf Says old line place place' (s, count)
  tells_not how.Line s short room put not asks said = absurd (line_put waiting place place' s count short room put not)
  tells_not (how.Document text) status.Done short room put not asks said = absurd (not refl)
  tells_not (how.Document text) status.Room short room (long, less, same) not asks said = (said, same, inr (asks, less))
  tells_not (how.Document text) status.Memory short room put not asks said = absurd put
  tells_not (how.Document text) status.Closed short room put not asks said = absurd put
  tells_not (how.Document text) status.Open short room put not asks said = absurd put
  tells_not (how.Document text) status.Names short room put not asks said = absurd put
  tells_not (how.Document text) status.TooLong short room put not asks said = absurd put
  tells_not how.NoMemory status.Memory short room (is, same) not asks said = (said, same, ap (λ (t : Status × ℕ). t.1) is, asks)
  tells_not how.NoMemory status.Done short room (is, same) not asks said = absurd (not refl)
  tells_not how.NoMemory status.Room short room (is, same) not asks said = absurd (memory_is status.Room count is)
  tells_not how.NoMemory status.Closed short room (is, same) not asks said = absurd (memory_is status.Closed count is)
  tells_not how.NoMemory status.Open short room (is, same) not asks said = absurd (memory_is status.Open count is)
  tells_not how.NoMemory status.Names short room (is, same) not asks said = absurd (memory_is status.Names count is)
  tells_not how.NoMemory status.TooLong short room (is, same) not asks said = absurd (memory_is status.TooLong count is)
