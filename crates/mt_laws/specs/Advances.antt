-- What an advance leaves as it was, and where it writes.
use Rattle.std.specs.Prelude.{◌≡◌, ℕ, if◌then◌else◌, List, ◌++◌, take, option_map}
use Rattle.mt_names.specs.Names.{same_text}
use Rattle.mt_model.specs.declared.entries.EntryKey.{EntryKey}
use Rattle.mt_plain.specs.Events.{StreamName}
use Rattle.mt_plain.specs.Plain.{Lane, Live, LogEntry, Plain, live_at, mover, part_owner}
use Rattle.mt_plain.specs.Serve.{has_table, refuses, served_entry}
use Rattle.mt_plain.specs.Slots.{live_advanced, log_of, logged, past, to_copy, written_shard, written_side}
use Rattle.mt_plain.specs.Writes.{client_number, client_row, writes_to}
use Rattle.mt_laws.specs.Changes.{HasSides}

-- a live workflow after an advance of the workflow of a name: that one has read or copied, each other one is as it was
abbrev pub advanced_live : Plain → (workflow : List ℕ) → StreamName → (shard at at_most events rows : ℕ) → Live → Live
advanced_live p workflow stream shard at at_most events rows w =
    if same_text w.name workflow then live_advanced p w stream shard at at_most events rows else w

-- what an advance with these counts writes at the side that its stream writes
abbrev pub entries_written : Plain → Live → Lane → StreamName → (at events rows : ℕ) → List LogEntry
entries_written p w lane stream at events rows =
    logged w lane stream (take events (past p w lane stream at)) (take rows (to_copy p w lane (past p w lane stream at)))

-- a state and the one after an advance of a workflow's stream: each live workflow keeps its name, sides, tables, switched types and way,
-- and is found as before; what is there, refused and served stays, and so do numbers, acknowledged writes and the rows that they leave;
-- the log of the side that the stream writes goes on with what was written, and each other log stays
pub record IsAfterAdvance (p q : Plain) (workflow : List ℕ) (w : Live) (lane : Lane) (stream : StreamName) (shard at at_most events rows : ℕ) : Type 0 where
  pub topology : q.topology ≡ p.topology
  pub numbers : q.numbers ≡ p.numbers
  pub made : q.made ≡ p.made
  pub writes : q.writes ≡ p.writes
  pub live : (name : List ℕ) → live_at q name ≡ option_map (advanced_live p workflow stream shard at at_most events rows) (live_at p name)
  pub movers : (table : List ℕ) → mover q table ≡ option_map (advanced_live p workflow stream shard at at_most events rows) (mover p table)
  pub owners : (key : EntryKey) → part_owner q key ≡ option_map (advanced_live p workflow stream shard at at_most events rows) (part_owner p key)
  pub sides : (v : Live) → HasSides v (advanced_live p workflow stream shard at at_most events rows v)
  pub switched : (v : Live) → (advanced_live p workflow stream shard at at_most events rows v).switched ≡ v.switched
  pub way : (v : Live) → (advanced_live p workflow stream shard at at_most events rows v).way ≡ v.way
  pub present : (keyspace table : List ℕ) → has_table q keyspace table ≡ has_table p keyspace table
  pub refused : (keyspace : List ℕ) (at_shard : ℕ) (table : List ℕ) → refuses q keyspace at_shard table ≡ refuses p keyspace at_shard table
  pub served : (key : EntryKey) → served_entry q key ≡ served_entry p key
  pub clients : (keyspace table : List ℕ) → client_number q keyspace table ≡ client_number p keyspace table
  pub client_rows : (keyspace table : List ℕ) (key : ℕ) → client_row q keyspace table key ≡ client_row p keyspace table key
  pub all_writes : (v : Live) → writes_to q (advanced_live p workflow stream shard at at_most events rows v) ≡ writes_to p v
  pub log : log_of q (written_side w stream) (written_shard lane stream)
      ≡ log_of p (written_side w stream) (written_shard lane stream) ++ entries_written p w lane stream at events rows
  pub other_logs : (keyspace : List ℕ) (at_shard : ℕ) → (written_side w stream ≡ keyspace → written_shard lane stream ≡ at_shard → ⊥)
      → log_of q keyspace at_shard ≡ log_of p keyspace at_shard
