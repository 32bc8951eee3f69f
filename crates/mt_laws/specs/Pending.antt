-- What a stream has still to read of the moved tables, and the rows that entries and acknowledged writes are about.
use Rattle.std.specs.Prelude.{ℕ, List, filter}
use Rattle.mt_plain.specs.Events.{StreamName}
use Rattle.mt_plain.specs.Plain.{Lane, Live, LogEntry, Plain, Write, number_of}
use Rattle.mt_plain.specs.Slots.{is_for, past}

-- a row of a client table: the number of the table, and the row's key
pub record ClientRow : Type 0 where
  pub table : ℕ
  pub key : ℕ

-- the row that an acknowledged write is about
abbrev pub row_of_write : Write → ClientRow
row_of_write write = record { table = write.table; key = write.key }

-- the row that an entry of a moved table is about: the client table is numbered as the table at the source
abbrev pub row_of_entry : Plain → Live → LogEntry → ClientRow
row_of_entry p w e = record { table = number_of p w.source e.table; key = e.key }

-- the entries of moved tables with a key in the shard of a lane, past a position of the log that its stream reads
abbrev pub pending : Plain → Live → Lane → StreamName → (position : ℕ) → List LogEntry
pending p w lane name position = filter (is_for w lane) (past p w lane name position)
