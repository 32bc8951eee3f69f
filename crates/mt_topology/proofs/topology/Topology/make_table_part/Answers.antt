-- None of the keys is refused a place once those before it have theirs.
use Rattle.std.proofs.Common.{ℕ, List, [], ◌∷◌, map}
use Rattle.mt_model.specs.declared.entries.EntryKey.{EntryKey}
use Rattle.mt_model.specs.declared.entries.EntryKey.TheVariants as about
use Rattle.mt_model.specs.Part.{table_rule_keys}
use Rattle.mt_topology.proofs.RoomLemmas.{first_free, places_refusal-append}
use Rattle.mt_topology.proofs.topology.Topology.make_table_part.Goals as goal

abbrev last : (source target table : List ℕ) → List EntryKey
last source target table = about.Denied source table ∷ about.Denied target table ∷ about.Present target table ∷ []

pub make_denial-requires : goal.make_denial-requires
make_denial-requires c =
    let s = c.args.source.now in
    let g = c.args.target.now in
    let t = c.args.table.now in
    let behind = (places_refusal-append c.args.self.now (map about.Rule (table_rule_keys s g t)) (last s g t) c.requires).1 c.make_rules.new.self c.in_ok-make_rules.ensures.all in
    (first_free c.make_rules.new.self (about.Denied s t) (about.Denied g t ∷ about.Present g t ∷ []) behind).0

pub make_denial-requires-2 : goal.make_denial-requires-2
make_denial-requires-2 c =
    let s = c.args.source.now in
    let g = c.args.target.now in
    let t = c.args.table.now in
    let behind = (places_refusal-append c.args.self.now (map about.Rule (table_rule_keys s g t)) (last s g t) c.requires).1 c.make_rules.new.self c.in_ok-make_rules.ensures.all in
    let later = (first_free c.make_rules.new.self (about.Denied s t) (about.Denied g t ∷ about.Present g t ∷ []) behind).1 c.make_denial.new.self c.in_ok-make_denial.ensures.all in
    (first_free c.make_denial.new.self (about.Denied g t) (about.Present g t ∷ []) later).0

pub make_presence-requires : goal.make_presence-requires
make_presence-requires c =
    let s = c.args.source.now in
    let g = c.args.target.now in
    let t = c.args.table.now in
    let behind = (places_refusal-append c.args.self.now (map about.Rule (table_rule_keys s g t)) (last s g t) c.requires).1 c.make_rules.new.self c.in_ok-make_rules.ensures.all in
    let later = (first_free c.make_rules.new.self (about.Denied s t) (about.Denied g t ∷ about.Present g t ∷ []) behind).1 c.make_denial.new.self c.in_ok-make_denial.ensures.all in
    let end = (first_free c.make_denial.new.self (about.Denied g t) (about.Present g t ∷ []) later).1 c.make_denial-2.new.self c.in_ok-make_denial-2.ensures.all in
    (first_free c.make_denial-2.new.self (about.Present g t) [] end).0
