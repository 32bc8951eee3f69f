-- What becomes of primaries and of the topology as a table is made and taken back, and what the controller tells of a row (this profile's own).
use Rattle.std.specs.Prelude.{◌≡◌, ⊤, ℕ, ◌<◌, false, List, is_some, length, Option, Result, Ok, Err}
use Rattle.mt_model.specs.declared.entries.Entry.TheVariants.{Present}
use Rattle.mt_model.specs.declared.entries.EntryKey.TheVariants as about
use Rattle.mt_model.specs.declared.faults.PrimaryFault.{PrimaryFault}
use Rattle.mt_model.specs.Topology.{TopologyState, has_place, is_present, keyspace_at, with_entry, with_keyspace_state, without_table_place}
use Rattle.mt_event.specs.declared.reason.Reason.{Reason}
use Rattle.mt_event.specs.Reasons.{reason_from}
use Rattle.mt_model.specs.Rows.{RowValue}
use Rattle.mt_plain.specs.Events.{Answer, refused, row}
use Rattle.mt_primary.specs.Primary.{has_table}
use Rattle.mt_primary.specs.Writes.{with_new_table}
use Rattle.mt_primary.specs.Primaries.{Primaries, count_of, has_primaries, primary_of, with_all}

-- the answer of a row that is read, or not
abbrev pub read_from : Result (Option RowValue) Reason → Answer
read_from (Ok r) = row r
read_from (Err r) = refused (reason_from r)

-- a table is made at each primary of its keyspace, or all is as it was
abbrev pub CreatesTable : Primaries → (keyspace table : List ℕ) → Result ⊤ PrimaryFault → Primaries → Type 0
CreatesTable old keyspace table (Ok done) new = new ≡ with_all old keyspace (λ primary. with_new_table primary table)
CreatesTable old keyspace table (Err fault) new = new ≡ old

-- a topology without a table and its place
abbrev pub without_table : TopologyState → (keyspace table : List ℕ) → TopologyState
without_table t keyspace table =
    let absent = with_entry t (Present keyspace table false) in
    record absent { keyspaces = with_keyspace_state (without_table_place table) absent.keyspaces keyspace }

-- the keyspaces of a topology are those that have primaries, each of which has the tables that are there, and just these have a place
pub record AreTables (t : TopologyState) (primaries : Primaries) : Type 0 where
  pub there : (keyspace : List ℕ) → has_primaries primaries keyspace ≡ is_some (keyspace_at t.keyspaces keyspace)
  pub count : length primaries ≡ length t.keyspaces
  pub tables : (keyspace : List ℕ) (shard : ℕ) → shard < count_of primaries keyspace → (table : List ℕ)
      → has_table (primary_of primaries keyspace shard) table ≡ is_present t.keyspaces keyspace table
  pub places : (keyspace table : List ℕ) → has_place t (about.Present keyspace table) ≡ is_present t.keyspaces keyspace table
