-- Parts of the definitions, with names of their own.
use Rattle.std.specs.Prelude.{ℕ, Bool, false, ◌&&◌, ◌||◌, if◌then◌else◌, List, Option, Ok}
use Rattle.std.specs.Option.{option_map_or}
use Rattle.mt_names.specs.declared.types.TypeSet.{TypeSet}
use Rattle.mt_plain.specs.Drive.{gives_up, stopped, Heard, goes_on, ends}
use Rattle.mt_plain.specs.Events.{Refusal, Way}
use Rattle.mt_plain.specs.Plain.{Live, changed_types, is_side, stands_done, stands_done_at, write_journal}
use Rattle.mt_plain.specs.Serve.{is_denied_at, list_types}

-- whether a way changes reads
abbrev pub changes_reads : Way → Bool
changes_reads way = (changed_types way).replica || (changed_types way).rdonly

-- a side of a workflow, by whether it is the target
abbrev pub side_by : Live → Bool → List ℕ
side_by w is_target = if is_target then w.target else w.source

-- the types at a refresh of a shard, by the way that is open
abbrev pub list_types_by_way : TypeSet → Option Way → (step shard : ℕ) → TypeSet
list_types_by_way switched o step shard = option_map_or (λ (way : Way). if stands_done_at way step shard then way.after else way.before) o switched

-- the types at a step, by the way that is open
abbrev pub types_by_way : TypeSet → Option Way → ℕ → TypeSet
types_by_way switched o step = option_map_or (λ (way : Way). if stands_done way step then way.after else way.before) o switched

-- what the own list of a shard's primary refuses, by the workflow that moves a table
abbrev pub refuses_moved : Option Live → (keyspace : List ℕ) → (shard : ℕ) → Bool
refuses_moved o keyspace shard =
    option_map_or (λ (w : Live). is_side w keyspace && is_denied_at w (list_types w keyspace shard) keyspace) o false

-- a drive that can't go on, by the way that is open
abbrev pub gives_up_or_stops : (done : ℕ) → (workflow : List ℕ) → Refusal → Option Way → Heard
gives_up_or_stops done workflow refusal o =
    if option_map_or (λ (way : Way). stands_done way write_journal) o false
    then ends (Ok (stopped refusal done)) else goes_on (gives_up workflow refusal)
