-- A drive over a core that has memory, and whose watchers don't refuse, has the one end that is computed.
use Rattle.std.proofs.Common.{ℕ, zero, suc, refl, subst, Option, None, Some, Result}
use Rattle.mt_plain.specs.Answers.{answer_of}
use Rattle.mt_plain.specs.Drive.{Driven, EndRule, Drives, GoesOn, Driving, Heard, goes_on, ends, event_of, heard}
use Rattle.mt_plain.specs.Events.{Refusal}
use Rattle.mt_plain.specs.Next.{next}
use Rattle.mt_plain.specs.Output.{AnswersWithMemory}
use Rattle.mt_plain.specs.Plain.{Plain}

-- how it ends, and in which state
abbrev pub End : Type 0
End = Option (Result Driven Refusal × Plain)

abbrev pub end_by : (Driving → Plain → End) → Plain → Heard → End
end_by again p (goes_on driving) = again driving p
end_by again p (ends ended) = Some (ended, p)

abbrev pub end_of : (turns : ℕ) → Driving → Plain → End
end_of zero driving p = None
end_of (suc turns) driving p =
    let answer = answer_of p (event_of p driving) in let q = next p (event_of p driving) answer in end_by (end_of turns) q (heard q driving answer)

abbrev pub HasEnd : EndRule → End → Type 0
HasEnd Ends None = ⊥
HasEnd Ends (Some end) = Ends end.0 end.1

pub end_from_drive : (turns : ℕ) (Ends : EndRule) (driving : Driving) (p : Plain)
    → Drives AnswersWithMemory turns Ends driving p → HasEnd Ends (end_of turns driving p)
end_from_drive zero Ends driving p drives = drives
end_from_drive (suc turns) Ends driving p drives =
    by (end_from_drive turns Ends) (heard q driving (answer_of p (event_of p driving)))
    (subst (λ answer. GoesOn (Drives AnswersWithMemory turns Ends) Ends (next p (event_of p driving) answer) (heard (next p (event_of p driving) answer) driving answer)) drives.1 drives.2)
  where
    q : Plain
    q = next p (event_of p driving) (answer_of p (event_of p driving))

    by : ((d : Driving) (s : Plain) → Drives AnswersWithMemory turns Ends d s → HasEnd Ends (end_of turns d s))
        → (o : Heard)
        → GoesOn (Drives AnswersWithMemory turns Ends) Ends q o → HasEnd Ends (end_by (end_of turns) q o)
    by again (goes_on other) goes = again other q goes
    by again (ends ended) goes = goes

pub drive_from_end : (turns : ℕ) (Ends : EndRule) (driving : Driving) (p : Plain)
    → HasEnd Ends (end_of turns driving p) → Drives AnswersWithMemory turns Ends driving p
drive_from_end zero Ends driving p end = end
drive_from_end (suc turns) Ends driving p end = (answer_of p (event_of p driving), refl, by (drive_from_end turns Ends) (heard q driving (answer_of p (event_of p driving))) end)
  where
    q : Plain
    q = next p (event_of p driving) (answer_of p (event_of p driving))

    by : ((d : Driving) (s : Plain) → HasEnd Ends (end_of turns d s) → Drives AnswersWithMemory turns Ends d s)
        → (o : Heard)
        → HasEnd Ends (end_by (end_of turns) q o) → GoesOn (Drives AnswersWithMemory turns Ends) Ends q o
    by again (goes_on other) goes = again other q goes
    by again (ends ended) goes = goes
