-- With what change watchers are asked: at Create with what it makes, at a refresh with the denials that the primary is to take over.
use Rattle.std.specs.Prelude.{ℕ, List, [], ◌∷◌, ◌++◌, flat_map, map}
use Rattle.std.specs.Option.{option_map_or}
use Rattle.mt_names.specs.Types.{no_types}
use Rattle.mt_model.specs.declared.entries.Entry.{Entry}
use Rattle.mt_model.specs.declared.entries.EntryKey.{EntryKey}
use Rattle.mt_model.specs.declared.entries.EntryKey.TheVariants as about
use Rattle.mt_model.specs.Topology.{TopologyState}
use Rattle.mt_plain.specs.Events.{Event, create, step}
use Rattle.mt_plain.specs.Next.{created}
use Rattle.mt_plain.specs.Plain.{Live, Plain, cuts_of, each_once, live_at, twelve_keys}
use Rattle.mt_plain.specs.Refuse.{asked_by_step}
use Rattle.mt_plain.specs.Serve.{serve, served_by}
use Rattle.mt_plain.specs.Slots.{log_length}

-- what Create changes of a table: its twelve rules, its denial at the target, and its presence there; at the source nothing is denied
-- or allowed (MoveTables: Create)
abbrev pub keys_created : Live → (table : List ℕ) → List EntryKey
keys_created w table =
    map about.Rule (twelve_keys w.source w.target table) ++ about.Denied w.target table ∷ about.Present w.target table ∷ []

-- the change that Create makes, table by table in the order named (MoveTables: Create)
abbrev pub create_change : TopologyState → Live → List Entry
create_change u w = flat_map (λ table. map (serve u w no_types) (keys_created w table)) w.tables

-- the denials of the moved tables at a side, as the topology has them, in the order named (How traffic is switched: the primary reloads
-- its denied tables)
abbrev pub refresh_change : Plain → Live → (side : List ℕ) → List Entry
refresh_change p w side = map (λ table. served_by p.topology w (about.Denied side table)) w.tables

-- the change with which an event asks the watchers of the keyspace that it asks; none where it asks nobody (this profile's own)
abbrev pub asked_change : Plain → Event → List Entry
asked_change p (create workflow source target tables) =
    create_change p.topology (created workflow source target (each_once tables) (cuts_of p target) (log_length p source 0))
asked_change p (step workflow at) = option_map_or (λ w. option_map_or (refresh_change p w) (asked_by_step w) []) (live_at p workflow) []
asked_change p other = []
