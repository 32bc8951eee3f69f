-- Answers, as they are kept (this profile's own).
use Rattle.std.specs.Prelude.{◌≡◌, ⊤, Bool, true, false, Option, None, Some, Result, Ok, Err}
use Rattle.mt_event.specs.declared.refusal.Refusal.{Refusal}
use Rattle.mt_event.specs.declared.refusal.Refusal.TheVariants as refusal
use Rattle.mt_event.specs.declared.reply.Reply.{Reply}
use Rattle.mt_event.specs.declared.reply.Reply.TheVariants as reply
use Rattle.mt_event.specs.declared.compact.answers.Kept.{Kept}
use Rattle.mt_event.specs.declared.compact.answers.Kept.TheVariants as kept
use Rattle.mt_event.specs.declared.reply.Told.{Told}
use Rattle.mt_event.specs.declared.reply.Told.TheVariants as told

-- what is answered, wherever it stands
abbrev pub answer_from : Kept → Result Reply Refusal
answer_from kept.Done = Ok reply.Done
answer_from kept.NoRow = Ok (reply.Row None)
answer_from (kept.Row value) = Ok (reply.Row (Some value))
answer_from (kept.Advanced advanced) = Ok (reply.Advanced advanced)
answer_from (kept.Refused reason) = Err (refusal.Other reason)
answer_from (kept.Other answer) = answer.value

-- the answer that the core told; what it tells of a workflow stands in itself
abbrev pub said_by : Result Told Refusal → Option (Result Reply Refusal)
said_by (Ok told.Done) = Some (Ok reply.Done)
said_by (Ok (told.Row row)) = Some (Ok (reply.Row row))
said_by (Ok (told.Advanced advanced)) = Some (Ok (reply.Advanced advanced))
said_by (Ok told.Shown) = None
said_by (Err why) = Some (Err why)

-- an answer that may not stand in place: a row, what Show tells, a refusal that tells a name
abbrev pub may_stand_apart : Result Reply Refusal → Bool
may_stand_apart (Ok reply.Done) = false
may_stand_apart (Ok (reply.Row None)) = false
may_stand_apart (Ok (reply.Row (Some value))) = true
may_stand_apart (Ok (reply.Advanced advanced)) = false
may_stand_apart (Ok (reply.Shown shown)) = true
may_stand_apart (Err (refusal.Other reason)) = false
may_stand_apart (Err other) = true

-- no other answer takes memory of its own
abbrev pub IsApart : Kept → Type 0
IsApart (kept.Other answer) = may_stand_apart answer.value ≡ true
IsApart other = ⊤
