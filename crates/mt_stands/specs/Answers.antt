-- What a primary answers to a write, and a stream to an advance, in the words for events (this profile's own).
use Rattle.std.specs.Prelude.{ℕ, Result, Ok, Err}
use Rattle.mt_model.specs.declared.faults.PrimaryFault.{PrimaryFault}
use Rattle.mt_model.specs.declared.faults.PrimaryFault.TheVariants as primary
use Rattle.mt_plain.specs.Events.{Refusal, memory, no_table, denied, row_exists, no_row, stale, stream_stopped, full, too_long, Answer, done, advanced, refused}
use Rattle.mt_stream.specs.declared.fault.StreamFault.{StreamFault}
use Rattle.mt_stream.specs.declared.fault.StreamFault.TheVariants as stream
use Rattle.mt_stream.specs.declared.stream.Advanced.{Advanced}

-- a primary's refusal
abbrev pub refusal_by : PrimaryFault → Refusal
refusal_by primary.Memory = memory
refusal_by primary.NoTable = no_table
refusal_by primary.Denied = denied
refusal_by primary.RowExists = row_exists
refusal_by primary.NoRow = no_row
refusal_by primary.TooLong = too_long
refusal_by primary.LogFull = full
-- a write is never told this
refusal_by primary.Purged = full

-- a write that is done, or refused
abbrev pub answer_by : Result ℕ PrimaryFault → Answer
answer_by (Ok position) = done
answer_by (Err fault) = refused (refusal_by fault)

-- a stream's refusal
abbrev pub refusal_by_stream : StreamFault → Refusal
refusal_by_stream stream.Memory = memory
refusal_by_stream (stream.Stale position) = stale position
refusal_by_stream stream.Stopped = stream_stopped
refusal_by_stream stream.Frozen = stream_stopped
refusal_by_stream stream.LogFull = full

-- an advance that is done, with its counts, or refused
abbrev pub answer_by_stream : Result Advanced StreamFault → Answer
answer_by_stream (Ok counts) = advanced counts.events counts.rows
answer_by_stream (Err fault) = refused (refusal_by_stream fault)
