-- A move that is given up at a book: what two calls leave.
use Rattle.std.proofs.Common.{◌≡◌, ◌∙◌, ◌++◌, ◌∷◌, [], ℕ, List, IfOk, Result, Ok, Err, ap, length, refl}
use Rattle.mt_event.specs.declared.event.Event.{Event}
use Rattle.mt_event.specs.declared.refusal.Refusal.{Refusal}
use Rattle.mt_event.specs.declared.reply.Reply.{Reply}
use Rattle.mt_desk.specs.declared.fault.DeskFault.{DeskFault}
use Rattle.mt_desk.specs.declared.history.Line.{Line}
use Rattle.mt_desk.specs.Histories.{line}
use Rattle.mt_desk_tests.specs.GivenUp.{AreListed}

behind : (xs : List Line) (y z : Line) → (xs ++ y ∷ []) ++ z ∷ [] ≡ xs ++ y ∷ z ∷ []
behind [] y z = refl
behind (x ∷ xs) y z = ap (λ l. x ∷ l) (behind xs y z)

-- two lines more, one behind the other
pub two_lines : (before between after : List Line) (one two : Event) (first second : Result (Result Reply Refusal) DeskFault)
    → IfOk first (λ r. between ≡ before ++ line 0 one r ∷ []) → IfOk second (λ r. after ≡ between ++ line 0 two r ∷ [])
    → IfOk first (λ f. IfOk second (λ s. after ≡ before ++ line 0 one f ∷ line 0 two s ∷ []))
two_lines before between after one two (Ok f) (Ok s) a b = b ∙ ap (λ xs. xs ++ line 0 two s ∷ []) a ∙ behind before (line 0 one f) (line 0 two s)
two_lines before between after one two (Ok f) (Err e) a b = b
two_lines before between after one two (Err e) second a b = a

-- of a history that had none there are two
pub two_in_all : (lines : List Line) (workflow : List ℕ) (at n : ℕ) (first second : Result (Result Reply Refusal) DeskFault)
    → AreListed [] workflow at first second lines → n ≡ length lines → IfOk first (λ f. IfOk second (λ s. n ≡ 2))
two_in_all lines workflow at n (Ok f) (Ok s) listed is = is ∙ ap length listed
two_in_all lines workflow at n (Ok f) (Err e) listed is = listed
two_in_all lines workflow at n (Err e) second listed is = listed
