-- A move that is given up at a book (this profile's own).
use Rattle.std.specs.Prelude.{◌≡◌, ◌++◌, ◌∷◌, [], ℕ, List, Result, Ok, IfOk, OnErr}
use Rattle.mt_event.specs.declared.event.Event.TheVariants as event
use Rattle.mt_event.specs.declared.refusal.Refusal.{Refusal}
use Rattle.mt_event.specs.declared.reply.Reply.{Reply}
use Rattle.mt_event.specs.declared.reply.Reply.TheVariants.{Done}
use Rattle.mt_event.specs.Events.{answer_from}
use Rattle.mt_model.specs.declared.entries.Scope.{Scope}
use Rattle.mt_plain.specs.Events as plain
use Rattle.mt_site.specs.GivenUp.{CanBeGivenUp}
use Rattle.mt_stands.specs.Ways.{CoreState, CoreSteps}
use Rattle.mt_desk.specs.declared.fault.DeskFault.{DeskFault}
use Rattle.mt_desk.specs.declared.history.Line.{Line}
use Rattle.mt_desk.specs.Histories.{line}

-- what an event leaves where it is answered so: where it isn't taken, the core as it was
abbrev pub Leaves : List Scope → (before : CoreState) → plain.Event → Result (Result Reply Refusal) DeskFault → (after : CoreState) → Type 0
Leaves scopes before event told after = IfOk told (λ answer. CoreSteps scopes before event (answer_from answer) after) × OnErr told (after ≡ before)

-- an undo and a Cancel behind it were answered: each is done where it can give the move up, the undo as the core stood before, and the Cancel as it
-- stood between the two
abbrev pub AreGivenUp : List Scope → (before : CoreState) → (workflow : List ℕ) → (at : ℕ) → (undone cancelled : Result (Result Reply Refusal) DeskFault) → Type 0
AreGivenUp scopes before workflow at undone cancelled =
    (CanBeGivenUp before (plain.undo workflow at) → undone ≡ Ok (Ok Done))
    × ((between : CoreState) × Leaves scopes before (plain.undo workflow at) undone between × (CanBeGivenUp between (plain.cancel workflow) → cancelled ≡ Ok (Ok Done)))

-- where both were taken, a history has their two lines more
abbrev pub AreListed : (before : List Line) → (workflow : List ℕ) → (at : ℕ) → (undone cancelled : Result (Result Reply Refusal) DeskFault) → (after : List Line) → Type 0
AreListed before workflow at undone cancelled after =
    IfOk undone (λ first. IfOk cancelled (λ second. after ≡ before ++ line 0 (event.Undo workflow at) first ∷ line 0 (event.Cancel workflow) second ∷ []))
