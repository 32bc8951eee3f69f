-- What of an answer takes memory to keep (this profile's own).
use Rattle.std.specs.Prelude.{Bool, true, false, Result}
use Rattle.std.specs.Option.{option_map_or}
use Rattle.mt_event.specs.declared.refusal.Refusal.{Refusal}
use Rattle.mt_event.specs.declared.reply.Told.{Told}
use Rattle.mt_event.specs.CompactAnswers.{may_stand_apart, said_by}
use Rattle.mt_plain.specs.Events.{Event, show}

abbrev pub is_show : Event → Bool
is_show (show workflow) = true
is_show other = false

-- a row, what tells of a workflow, a refusal that tells a name
abbrev pub may_take_memory : Event → Result Told Refusal → Bool
may_take_memory event told = option_map_or may_stand_apart (said_by told) (is_show event)
