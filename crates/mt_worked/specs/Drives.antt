-- How a drive is said to end.
use Rattle.std.specs.Prelude.{◌≡◌, Option, Result, Some, false, option_map, true, ℕ}
use Rattle.mt_names.specs.declared.types.TypeSet.{TypeSet}
use Rattle.mt_names.specs.Types.{all_types}
use Rattle.mt_plain.specs.Drive.{Driven, Driving, EndRule, begins, way_of}
use Rattle.mt_plain.specs.Events.{Refusal}
use Rattle.mt_plain.specs.Plain.{live_at}
use Rattle.mt_worked.specs.States.{mv}

-- a drive ends so
abbrev pub EndsAs : Result Driven Refusal → EndRule
EndsAs wanted ended p = ended ≡ wanted

-- a drive ends so, and leaves a way with so many steps done, or none, and these types switched
abbrev pub EndsWith : Result Driven Refusal → (left : Option ℕ) → TypeSet → EndRule
EndsWith wanted left types ended p =
    (ended ≡ wanted) × (option_map (λ way. way.done) (way_of p mv) ≡ left)
    × (option_map (λ w. w.switched) (live_at p mv) ≡ Some types)

-- a switch of all traffic, and its reversal, at their begin
abbrev pub switches : Driving
switches = begins mv all_types false

abbrev pub reverses : Driving
reverses = begins mv all_types true
