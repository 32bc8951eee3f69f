-- None of the keys is refused a place once those before it have theirs.
use Rattle.std.proofs.Common.{◌≡◌, ℕ, List, ◌++◌, map, Option, None, Some}
use Rattle.mt_model.specs.declared.entries.EntryKey.{EntryKey}
use Rattle.mt_model.specs.declared.entries.EntryKey.TheVariants as about
use Rattle.mt_model.specs.Part.{keys_of_name}
use Rattle.mt_topology.specs.Part.{places_refusal}
use Rattle.mt_topology.proofs.RoomLemmas.{places_refusal-append}
use Rattle.mt_topology.proofs.topology.Topology.make_rules.Goals as goal

abbrev names : Option (List ℕ) → List ℕ → List EntryKey
names keyspace table = map about.Rule (keys_of_name keyspace table)

pub make_name-requires-2 : goal.make_name-requires-2
make_name-requires-2 c =
    let s = c.args.source.now in
    let g = c.args.target.now in
    let t = c.args.table.now in
    let left : places_refusal c.make_name.new.self (names (Some s) t ++ names (Some g) t) ≡ None =
    (places_refusal-append c.args.self.now (names None t) (names (Some s) t ++ names (Some g) t) c.requires).1 c.make_name.new.self c.in_ok-make_name.ensures.all in
    (places_refusal-append c.make_name.new.self (names (Some s) t) (names (Some g) t) left).0

pub make_name-requires-3 : goal.make_name-requires-3
make_name-requires-3 c =
    let s = c.args.source.now in
    let g = c.args.target.now in
    let t = c.args.table.now in
    let left : places_refusal c.make_name.new.self (names (Some s) t ++ names (Some g) t) ≡ None =
    (places_refusal-append c.args.self.now (names None t) (names (Some s) t ++ names (Some g) t) c.requires).1 c.make_name.new.self c.in_ok-make_name.ensures.all in
    (places_refusal-append c.make_name.new.self (names (Some s) t) (names (Some g) t) left).1 c.make_name-2.new.self c.in_ok-make_name-2.ensures.all
