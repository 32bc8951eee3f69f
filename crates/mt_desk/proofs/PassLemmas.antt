-- What some passes list.
use Rattle.std.proofs.Common.{ℕ, List}
use Rattle.std.proofs.Math.Logic.{∥∥₁_elim, ∥∥₁_map}
use Rattle.mt_model.specs.declared.entries.Scope.{Scope}
use Rattle.mt_plain.specs.Answers.{IsLegal}
use Rattle.mt_plain.specs.Plain.{Plain}
use Rattle.mt_stands.specs.Ways.{CoreStands, CoreState}
use Rattle.mt_desk.specs.declared.history.Call.{Call}
use Rattle.mt_desk.specs.declared.history.Line.{Line}
use Rattle.mt_desk.specs.Histories.{Leads, history_from}
use Rattle.mt_desk.specs.Passes.{Differs, HaveOneHistory, IsCaused, IsOf}
use Rattle.mt_desk.specs.declared.fault.DeskFault.TheVariants.{HistoryDiffers}

-- the history that is kept is the one
pub one_history : (scopes : List Scope) (opening now : CoreState) (passes : List (ℕ × List Call)) (lines : List Line) → ∥ Leads scopes opening lines now ∥₁ → IsOf passes lines
    → HaveOneHistory scopes opening passes
one_history scopes opening now passes lines leads is = ∥∥₁_elim leads (hlevel) (λ l. ∣ (lines, now, l, is) ∣₁)

-- it is legal from a state that the controller stood for at the opening
pub one_legal_history : (scopes : List Scope) (opening : CoreState) (passes : List (ℕ × List Call)) → HaveOneHistory scopes opening passes
    → ∥ ((p : Plain) × (lines : List Line) × CoreStands p scopes opening × IsLegal p (history_from lines) × IsOf passes lines) ∥₁
one_legal_history scopes opening passes one =
    ∥∥₁_elim one (hlevel) (λ (lines, now, leads, is). ∥∥₁_map leads.stood (λ (p, stands). (p, lines, stands, (leads.each p stands).0, is)))

-- ---- why a history isn't that of some passes

-- the history that is kept is one from which they differ
pub cause_kept : (scopes : List Scope) (opening now : CoreState) (passes : List (ℕ × List Call)) (lines : List Line) (client : ℕ) → ∥ Leads scopes opening lines now ∥₁ → Differs passes lines client
    → IsCaused scopes opening passes (HistoryDiffers client)
cause_kept scopes opening now passes lines client leads differs = ∥∥₁_elim leads (hlevel) (λ l. ∣ (lines, now, l, differs) ∣₁)
