-- The client tables: what the acknowledged writes make of a row, at the owner and at the other side of a move.
use Rattle.std.specs.Prelude.{ℕ, Bool, true, false, not, ◌&&◌, ◌||◌, ◌==◌, nat_le, nat_lt, if◌then◌else◌, List, filter, fold, take, Option, None, Some}
use Rattle.std.specs.List.{list_any, position_or_len}
use Rattle.std.specs.Option.{option_map_or}
use Rattle.mt_names.specs.Names.{same_text}
use Rattle.mt_model.specs.Rows.{Row}
use Rattle.mt_plain.specs.Plain.{Copied, not_begun, up_to, ended, Lane, Live, Plain, Write, among, in_lane, is_side, lane_of, mover, number_of, owner}

-- the row after one write more (this profile's own)
abbrev pub row_after_write : (table key : ℕ) → Row → Write → Row
row_after_write table key before w = if (w.table == table) && (w.key == key) then w.after else before

-- the row that a list of writes leaves at a key of the table with a number (this profile's own)
abbrev pub row_after_writes : List Write → (table key : ℕ) → Row
row_after_writes writes table key = fold (row_after_write table key) None writes

-- the number of the client table that a name at a keyspace stands for: on both sides of a move it is that of the source, whose list of
-- acknowledged writes goes on through the move (MoveTables: the tables stay one table for their clients)
abbrev pub client_number : Plain → (keyspace table : List ℕ) → ℕ
client_number p keyspace table = number_of p (option_map_or (λ w. if is_side w keyspace then w.source else keyspace) (mover p table) keyspace) table

-- the row of a client table: what its acknowledged writes leave, each applied once, in their order (this profile's own)
abbrev pub client_row : Plain → (keyspace table : List ℕ) → ℕ → Row
client_row p keyspace table key = row_after_writes p.writes (client_number p keyspace table) key

-- whether a write is to a table that a workflow moves, and all those that were acknowledged, those before Create included
-- (this profile's own)
abbrev pub is_write_to : Plain → Live → Write → Bool
is_write_to p w write = list_any (λ table. number_of p w.source table == write.table) w.tables

-- all acknowledged writes to the tables that a workflow moves, those before Create included (this profile's own)
abbrev pub writes_to : Plain → Live → List Write
writes_to p w = filter (is_write_to p w) p.writes

-- those of them with a key in the shard of a lane, in the same order
abbrev pub lane_writes : Plain → Live → Lane → List Write
lane_writes p w lane = filter (λ write. in_lane w lane write.key) (writes_to p w)

-- ---- the other copy

-- the place of a table among those named; behind them all where it isn't named (this profile's own)
abbrev pub place_of : (tables : List (List ℕ)) → (table : List ℕ) → ℕ
place_of tables table = position_or_len (λ t. same_text t table) tables

-- whether a row lies in a copied range: not behind the last row copied, by the order of the tables named and then of keys; always once
-- the copy has ended (MoveTables: the copy phase)
abbrev pub in_range : (tables : List (List ℕ)) → Copied → (table : List ℕ) → ℕ → Bool
in_range tables not_begun table key = false
in_range tables (up_to last last_key) table key =
    nat_lt (place_of tables table) (place_of tables last) || (same_text table last && nat_le key last_key)
in_range tables ended table key = true

-- whether a stream of these tables, with that range copied, writes an entry of its source's log about a row: the row is of one of them,
-- and lies in the range (MoveTables: the catchup between copying is for the rows already copied)
abbrev pub is_applied : (tables : List (List ℕ)) → Copied → (table : List ℕ) → ℕ → Bool
is_applied tables range table key = among tables table && in_range tables range table key

-- whether a row lies in the copied range of its shard (MoveTables: the copy phase)
abbrev pub is_copied : Live → (table : List ℕ) → ℕ → Bool
is_copied w table key = option_map_or (λ lane. in_range w.tables lane.copied table key) (lane_of w key) false

-- the row that a lane has at the side that is not the owner: in its copied range what the writes fed to it up to now leave, elsewhere none
-- (MoveTables: the stream applies what was committed, in its order)
abbrev pub lane_row : Plain → Live → Lane → (table : List ℕ) → ℕ → Row
lane_row p w lane table key =
    if in_range w.tables lane.copied table key then row_after_writes (take lane.fed (lane_writes p w lane)) (number_of p w.source table) key else None

-- the row at the side that is not the owner, by the lane of its key (MoveTables)
abbrev pub other_row : Plain → Live → (table : List ℕ) → ℕ → Row
other_row p w table key = option_map_or (λ lane. lane_row p w lane table key) (lane_of w key) None

-- the row of a table at a keyspace (MoveTables)
abbrev pub row_by_mover : Plain → Option Live → (keyspace table : List ℕ) → ℕ → Row
row_by_mover p None keyspace table key = client_row p keyspace table key
row_by_mover p (Some w) keyspace table key =
    if is_side w keyspace && not (same_text (owner w) keyspace) then other_row p w table key else client_row p keyspace table key

-- the row of a table at a keyspace, by the workflow that moves it (MoveTables)
abbrev pub row_of : Plain → (keyspace table : List ℕ) → ℕ → Row
row_of p keyspace table key = row_by_mover p (mover p table) keyspace table key
