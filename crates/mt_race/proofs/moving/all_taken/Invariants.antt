-- Those before this one were taken.
use Rattle.std.proofs.Common.{◌≡◌, All, true, take}
use Rattle.std.specs.Prelude.{is_ok}
use Rattle.mt_race.proofs.moving.all_taken.Given as goal

abbrev pub invariant-loop-answer : goal.invariant-loop-answer
invariant-loop-answer l = All (λ answer. is_ok answer ≡ true) (take l.answer-index l.answers)
