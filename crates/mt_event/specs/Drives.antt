-- How a whole switch or reversal of traffic went, in the words of the definitions.
use Rattle.std.specs.Prelude.{Result, Ok, Err}
use Rattle.mt_event.specs.declared.driven.Driven.{Driven}
use Rattle.mt_event.specs.declared.driven.Driven.TheVariants as from
use Rattle.mt_event.specs.declared.refusal.Refusal.{Refusal}
use Rattle.mt_event.specs.Events.{refusal_from}
use Rattle.mt_plain.specs.Drive as drive
use Rattle.mt_plain.specs.Events as plain

-- how it went once it was begun (SwitchTraffic, ReverseTraffic)
abbrev pub driven_from : Driven → drive.Driven
driven_from from.Done = drive.done
driven_from (from.Abandoned refusal) = drive.abandoned (refusal_from refusal)
driven_from (from.Stopped refusal steps) = drive.stopped (refusal_from refusal) steps

-- the same, or that its begin was refused (SwitchTraffic, ReverseTraffic)
abbrev pub ended_from : Result Driven Refusal → Result drive.Driven plain.Refusal
ended_from (Ok driven) = Ok (driven_from driven)
ended_from (Err refusal) = Err (refusal_from refusal)
