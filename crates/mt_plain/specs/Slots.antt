-- Streams: their states and positions, and what an advance reads, copies and writes.
use Rattle.std.specs.Prelude.{ℕ, suc, ◌+◌, ◌-◌, Bool, true, false, not, ◌&&◌, ◌||◌, ◌==◌, nat_lt, if◌then◌else◌, List, [], ◌∷◌, ◌++◌, count_by, cond, drop, filter, flat_map, fold, length, map, min, take, Option, None, Some, is_some, slice_get, option_map}
use Rattle.std.specs.List.{list_any}
use Rattle.std.specs.Option.{option_map_or}
use Rattle.mt_names.specs.Names.{same_text}
use Rattle.mt_model.specs.Limits.{longest_log}
use Rattle.mt_plain.specs.Events.{StreamName, forward, back, StreamState, running, stopped, frozen, Slot, Way}
use Rattle.mt_plain.specs.Plain.{Copied, up_to, ended, Lane, Live, LogEntry, Plain, before_way, in_lane, changes_primary, create_back, moves, number_of, stands_done, start_back, stop_feeding}
use Rattle.mt_plain.specs.Writes.{client_row, in_range, is_applied}

-- ---- logs

-- the log of the primary of a shard: one entry for each write that it acknowledged and for each change that a stream wrote there, in
-- their order (this profile's own; in Vitess the binary log)
abbrev pub is_entry_at : (keyspace : List ℕ) → (shard : ℕ) → LogEntry → Bool
is_entry_at keyspace shard e = same_text e.keyspace keyspace && (e.shard == shard)

abbrev pub log_of : Plain → (keyspace : List ℕ) → (shard : ℕ) → List LogEntry
log_of p keyspace shard = filter (is_entry_at keyspace shard) p.log

-- how many entries it has (this profile's own)
abbrev pub log_length : Plain → (keyspace : List ℕ) → (shard : ℕ) → ℕ
log_length p keyspace shard = count_by (is_entry_at keyspace shard) p.log

-- how many entries it can take (this profile's own)
abbrev pub room_in_log : Plain → (keyspace : List ℕ) → (shard : ℕ) → ℕ
room_in_log p keyspace shard = longest_log - log_length p keyspace shard

-- ---- slots

-- the side that a stream reads, and the one that it writes (MoveTables: the workflow and its reverse workflow)
abbrev pub read_side : Live → StreamName → List ℕ
read_side w forward = w.source
read_side w back = w.target

-- the side that a stream writes (MoveTables)
abbrev pub written_side : Live → StreamName → List ℕ
written_side w forward = w.target
written_side w back = w.source

-- the shards of these sides: a lane is that of one shard of the target, and the source has one (MoveTables)
abbrev pub read_shard : Lane → StreamName → ℕ
read_shard lane forward = 0
read_shard lane back = lane.shard

abbrev pub written_shard : Lane → StreamName → ℕ
written_shard lane forward = lane.shard
written_shard lane back = 0

-- at rest: with the source as owner forward runs, and there is no back stream; else forward is frozen, and the back stream runs
-- (How traffic is switched)
abbrev pub slot_at_rest : Lane → (target_owns : Bool) → StreamName → Option Slot
slot_at_rest lane target_owns forward = Some (record { state = if target_owns then frozen else running; position = lane.forward_at })
slot_at_rest lane target_owns back = if target_owns then Some (record { state = running; position = lane.back_at }) else None

-- the slot as it was before the way
abbrev pub slot_before_way : Live → Lane → StreamName → Option Slot
slot_before_way w lane name = slot_at_rest lane (before_way w).primary name

-- on a way that changes writes the feeding stream is stopped once that step stands done; the other slot holds the new stream once
-- that is made, stopped until it is started (How traffic is switched)
abbrev pub feeding_slot : Lane → Way → Option Slot → Option Slot
feeding_slot lane way slot = option_map (λ s. if stands_done way stop_feeding then record s { state = stopped } else s) slot

-- the other slot (How traffic is switched)
abbrev pub other_slot : Lane → Way → Option Slot → Option Slot
other_slot lane way slot =
    if stands_done way create_back then Some (record { state = if stands_done way start_back then running else stopped; position = lane.fresh_at }) else slot

-- whether a way feeds by this stream: forward on a way forward, back on a way back (How traffic is switched)
abbrev pub is_feeding : Way → StreamName → Bool
is_feeding way forward = not way.back
is_feeding way back = way.back

-- a slot at rest, on a way of reads, and on a way that changes writes (How traffic is switched)
abbrev pub slot_by_way : Live → Lane → Option Way → StreamName → Option Slot
slot_by_way w lane None name = slot_before_way w lane name
slot_by_way w lane (Some way) name =
    if not (changes_primary way) then slot_before_way w lane name
    else if is_feeding way name then feeding_slot lane way (slot_before_way w lane name)
    else other_slot lane way (slot_before_way w lane name)

-- the forward stream of a lane, or its back stream if there is one (MoveTables: Show)
abbrev pub slot_of : Live → Lane → StreamName → Option Slot
slot_of w lane name = slot_by_way w lane w.way name

-- a workflow whose stream has read some entries more; a stream that the open way has made is not yet the one at rest
-- (this profile's own)
abbrev pub is_fresh : Option Way → StreamName → Bool
is_fresh None name = false
is_fresh (Some way) name = changes_primary way && not (is_feeding way name) && stands_done way create_back

-- the lane with that stream's position (this profile's own)
abbrev pub with_position : Lane → StreamName → Bool → ℕ → Lane
with_position lane name true position = record lane { fresh_at = position }
with_position lane forward false position = record lane { forward_at = position }
with_position lane back false position = record lane { back_at = position }

-- a running stream's position; none where it is absent, stopped or frozen
abbrev pub running_by : StreamState → (position : ℕ) → Option ℕ
running_by running position = Some position
running_by other position = None

-- a slot's position, where its stream runs
abbrev pub running_at : Option Slot → Option ℕ
running_at None = None
running_at (Some slot) = running_by slot.state slot.position

-- ---- what an advance does from a position on

-- the entries of the log past the position (MoveTables: the events still to be applied)
abbrev pub past : Plain → Live → Lane → StreamName → (position : ℕ) → List LogEntry
past p w lane name position = drop position (log_of p (read_side w name) (read_shard lane name))

-- whether the stream of a lane writes an entry at the other side; it passes over those with a key in another shard (MoveTables: the
-- catchup)
abbrev pub applies : Live → Lane → LogEntry → Bool
applies w lane e = in_lane w lane e.key && is_applied w.tables lane.copied e.table e.key

-- a number put in its place among ascending ones, once
abbrev pub put_in_order : List ℕ → ℕ → List ℕ
put_in_order [] n = n ∷ []
put_in_order (m ∷ ms) n = if n == m then m ∷ ms else if nat_lt n m then n ∷ m ∷ ms else (m ∷ put_in_order ms n)

-- the keys of a moved table's rows at the source, ascending (MoveTables: rows are copied in primary key order)
abbrev pub keys_of_rows : Plain → Live → (table : List ℕ) → List ℕ
keys_of_rows p w table =
    let number = number_of p w.source table in
    filter (λ key. is_some (client_row p w.source table key)) (fold put_in_order [] (flat_map (λ write. cond (write.table == number) (write.key ∷ []) []) p.writes))

-- the rows of a lane's shard that are still to be copied: those outside the copied range, in the order of the tables named and then of
-- keys (MoveTables: the copy phase)
abbrev pub uncopied : Plain → Live → Lane → List (List ℕ × ℕ)
uncopied p w lane =
    flat_map (λ table. map (λ key. (table, key)) (filter (λ key. in_lane w lane key && not (in_range w.tables lane.copied table key)) (keys_of_rows p w table))) w.tables

-- the rows that an advance may copy: none as long as an entry stands past the position (MoveTables)
abbrev pub to_copy : Plain → Live → Lane → List LogEntry → List (List ℕ × ℕ)
to_copy p w lane [] = uncopied p w lane
to_copy p w lane (e ∷ es) = []

-- how many entries can be read with so much room for those that are written (this profile's own)
abbrev pub readable : {E : Type 0} → (is_written : E → Bool) → (room : ℕ) → List E → ℕ
readable is_written room [] = 0
readable is_written room (e ∷ es) =
    if is_written e && (room == 0) then 0 else suc (readable is_written (if is_written e then room - 1 else room) es)

-- how many entries an advance reads, and how many rows it copies: up to the limit, as far as the log of the other side has room
-- (this profile's own)
abbrev pub most_events : Plain → Live → Lane → StreamName → (position at_most : ℕ) → ℕ
most_events p w lane name position at_most = readable (applies w lane) (room_in_log p (written_side w name) (written_shard lane name)) (take at_most (past p w lane name position))

-- how many rows it copies
abbrev pub most_rows : Plain → Live → Lane → StreamName → (position at_most : ℕ) → ℕ
most_rows p w lane name position at_most =
    min (room_in_log p (written_side w name) (written_shard lane name)) (min at_most (length (to_copy p w lane (past p w lane name position))))

-- whether an advance writes anything
abbrev pub writes_any : Plain → Live → Lane → StreamName → (position at_most : ℕ) → Bool
writes_any p w lane name position at_most =
    let entries = past p w lane name position in
    list_any (applies w lane) (take at_most entries) || nat_lt 0 (min at_most (length (to_copy p w lane entries)))

-- whether an advance may have been cut to these counts, because a growth was refused: not at its first change, and where the next
-- thing to do is a change (this profile's own)
abbrev pub may_be_cut : Plain → Live → Lane → StreamName → (position at_most events rows : ℕ) → Bool
may_be_cut p w lane name position at_most events rows =
    let entries = past p w lane name position in
    (rows == 0) && nat_lt events (most_events p w lane name position at_most)
    && list_any (applies w lane) (take events entries) && option_map_or (applies w lane) (slice_get entries events) false
    || (events == 0) && nat_lt 0 rows && nat_lt rows (most_rows p w lane name position at_most)

-- ---- the state after an advance with its counts

-- the copied range after an advance: reading entries does not change it; else it goes up to the last of the rows copied, and has
-- ended where fewer were copied than allowed, and none is left (MoveTables: the copy phase ends after the last table)
abbrev pub copied_after : {E : Type 0} → Copied → (entries : List E) → (left : List (List ℕ × ℕ)) → (rows at_most : ℕ) → Copied
copied_after copied (e ∷ es) left rows at_most = copied
copied_after copied [] left rows at_most =
    if nat_lt rows at_most && (rows == length left) then ended else fold (λ range row. up_to row.0 row.1) copied (take rows left)

-- what an advance writes at the other side: the entries that it applied, or the rows that it copied (MoveTables)
abbrev pub entry_of_row : (keyspace : List ℕ) → (shard : ℕ) → List ℕ × ℕ → LogEntry
entry_of_row keyspace shard row = record { keyspace = keyspace; shard = shard; table = row.0; key = row.1 }

-- what an advance writes there (MoveTables)
abbrev pub logged : Live → Lane → StreamName → List LogEntry → List (List ℕ × ℕ) → List LogEntry
logged w lane name entries rows =
    map (λ e. entry_of_row (written_side w name) (written_shard lane name) (e.table, e.key)) (filter (applies w lane) entries)
    ++ map (entry_of_row (written_side w name) (written_shard lane name)) rows

-- whether an entry is about a moved table and a key in the shard of a lane
abbrev pub is_for : Live → Lane → LogEntry → Bool
is_for w lane e = in_lane w lane e.key && moves w e.table

-- the lane after an advance of its stream: its position by the entries read, fed by those of moved tables with a key in its shard
-- (MoveTables)
abbrev pub lane_advanced : Plain → Live → Lane → StreamName → (position at_most events rows : ℕ) → Lane
lane_advanced p w lane name position at_most events rows =
    let entries = past p w lane name position in
    let further = with_position lane name (is_fresh w.way name) (position + events) in
    record further {
      fed = lane.fed + count_by (is_for w lane) (take events entries);
      copied = copied_after lane.copied entries (to_copy p w lane entries) rows at_most;
    }

-- a workflow with one lane changed
abbrev pub with_lane : (Lane → Lane) → (shard : ℕ) → Live → Live
with_lane change shard w = record w { lanes = map (λ lane. if lane.shard == shard then change lane else lane) w.lanes }

-- the workflow after an advance of the stream of a shard (MoveTables)
abbrev pub live_advanced : Plain → Live → StreamName → (shard position at_most events rows : ℕ) → Live
live_advanced p w name shard position at_most events rows =
    with_lane (λ lane. lane_advanced p w lane name position at_most events rows) shard w

-- all logs after an advance (this profile's own)
abbrev pub log_advanced : Plain → Live → Lane → StreamName → (position events rows : ℕ) → List LogEntry
log_advanced p w lane name position events rows =
    let entries = past p w lane name position in
    p.log ++ logged w lane name (take events entries) (take rows (to_copy p w lane entries))
